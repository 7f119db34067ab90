-- What the runs of a fit leave in their area and beside it, and which of them the keeper hands back. No definition of
-- document 01 stands on this file.
use Rattle.std.specs.Prelude.{◌≡◌, List, ℕ, Float}
use Rattle.counts.specs.Counts.{plus_of, AtMost, of_runs}
use Rattle.kmeans_layout.specs.Kept.{kept_of}
use Rattle.kmeans_layout.specs.declared.Held.{Held}
use Rattle.mixture_kappa.specs.declared.Settings.{Settings}
use Rattle.mixture_run.specs.Mixture.{Em}
use Rattle.mixture_run.specs.Fits.{Once}
use Rattle.mixture_run.specs.Areas.{em_in, area_em, Same}
use Rattle.mixture_run.specs.declared.layout.Area.{Area}
use Rattle.mixture_restarts.specs.Runs.{run_of, runs_up_to, fit_of}
use Rattle.mixture_restarts.specs.declared.Runs.{Runs}
use Rattle.mixture_restarts.specs.declared.layout.Store.{Store}

-- with the sizes and leaves of an area: run t; the first run and n more; the fit
abbrev in_area : {A : Type 0} → Area → ((weights coords : List Float) (m k d : ℕ) → A) → A
in_area a f =
    let l = a.leaves in
    let z = a.shape in
    f l.weights.now l.coords.now z.m z.k z.d

abbrev pub run_in : Area → Settings → ℕ → Once
run_in a s = in_area a (run_of s)

abbrev pub runs_in : Area → Settings → ℕ → Once
runs_in a s = in_area a (runs_up_to s)

abbrev pub fit_in : Area → Settings → Once
fit_in a s = in_area a (fit_of s)

-- what is held, with its log-likelihood
abbrev pub held_em : Store → Float → Em
held_em s loglik = em_in s.shape.m s.shape.k s.directions.now s.rest.now loglik

-- after t runs in the area a, now a', the store has what this run found, with the sizes of the area
pub record Holds (once : Once) (a a' : Area) (s : Store) (t : ℕ) (h : Held) : Type 0 where
  pub same : Same a a'
  pub same_held : s.shape ≡ a.shape
  pub there : held_em s h.value ≡ once.em
  pub counts : h.counts ≡ once.counts
  pub small : AtMost (of_runs t) h.counts

-- with this run more: what is held then, as before or the run's own
pub record OneMore (run : Once) (a a' : Area) (s s' : Store) (h h' : Held) : Type 0 where
  pub same : Same a a'
  pub same_held : s'.shape ≡ s.shape
  pub there : held_em s' h'.value ≡ kept_of h.value run.em.loglik (held_em s h.value) run.em
  pub counts : h'.counts ≡ plus_of h.counts run.counts
  pub small : AtMost (of_runs 1) run.counts

-- the last two runs, of which one will be kept: the held one in the store and the last in the area, and the counts of
-- all
pub record Both (held last : Once) (a a' : Area) (s : Store) (r : Runs) : Type 0 where
  pub same : Same a a'
  pub same_held : s.shape ≡ a.shape
  pub there : held_em s r.held ≡ held.em
  pub beside : area_em a' r.last ≡ last.em
  pub counts : r.counts ≡ plus_of held.counts last.counts
  pub small : AtMost (of_runs 4) r.counts

-- ---- the keeper

-- the kept one's log-likelihood
abbrev pub kept_loglik : (held run : Float) → Float
kept_loglik held run = kept_of held run held run
