-- `root::positive_roots` meets its contract.
use Rattle.std.proofs.Common.{rules, ◌^◌, refl, arith}
use Rattle.std.proofs.lemmas.Slice.Zip.{AllZip-map}
use Rattle.root.specs.Root.{root_of}
use Rattle.root.specs.Steps.{Open, Placed}
use Rattle.float.proofs.Arrays.{callable_on, callable_with, map_zips, map_with}
use Rattle.root.proofs.WholeRoots.{words, found, none_open}
use Rattle.root.proofs.positive_roots.Goals as goal

pub map-s-requires : goal.map-s-requires
map-s-requires g c =
    (omega arith, (omega arith, (search rules, callable_on _ _ _ tt (λ q x v k. refl) c.requires.positive)))

pub loop-top-init : goal.loop-top-init
loop-top-init g c =
    map_zips _ _ (λ q x y v k. refl) _ _ (λ v s. Open v (2 ^ 52) s) (search rules) c.map-s.ensures.items (λ x y q k. search rules)

pub map-s-requires-in-loop-top : goal.map-s-requires-in-loop-top
map-s-requires-in-loop-top g c =
    let l = c.loop-top in (
      omega arith,
      (
        omega arith,
        (
          search rules,
          callable_with _ _ _ _ (λ q x v k. search rules) (λ v s. Open v l.top s) _ l.invariant (λ v s o. search (words, rules)),
        ),
      ),
    )

pub loop-top-preserved : goal.loop-top-preserved
loop-top-preserved g c =
    let l = c.loop-top in
    map_with _ _ (λ q x y v k. search rules) _ _ (λ v s. Open v l.top s) _ _ (search rules) l.invariant
    c.map-s-in-loop-top.ensures.items
    (λ v x y q o k. let p : Placed l.top x y = search rules in p v o)

pub map-requires : goal.map-requires
map-requires g c =
    let l = c.loop-top in (
      omega arith,
      (
        omega arith,
        (
          search rules,
          callable_with _ _ _ tt (λ q x v k. refl) (λ v s. Open v l.top s) _ l.invariant (λ v s o. search (found, rules)),
        ),
      ),
    )

pub returns : goal.returns
returns g c =
    let l = c.loop-top in
    AllZip-map root_of _ _
    (map_with _ _ (λ q x y v k. refl) _ _ (λ v s. Open v l.top s) _ _ (search rules) l.invariant c.map.ensures.items
    (λ v x y q o k. search (none_open c.loop-top-test.false o, rules)))
