-- One step of a flip in the stored lists.
use Rattle.std.proofs.Common.{◌≡◌, ◌≢◌, ℕ, ◌<◌, List, length, get_or, set, arith, subst}
use Rattle.std.proofs.lemmas.List.{get_or-set_same, get_or-set_other}
use Rattle.hungarian.specs.inside.Plans.{at}
use Rattle.hungarian.specs.inside.Trees.{IsBack, IsFlipping}
use Rattle.hungarian.specs.inside.Stored.{IsFlippable, FlipsFrom, FlipsTo}
use Rattle.hungarian.proofs.Flipping.{flip_begins, flip_ends, flip_falls, flip_goes}

module _ (owners objects predecessors ranks : List ℕ) (e : ℕ) where
  pub flips_begin : FlipsFrom owners objects predecessors ranks e e owners objects
  flips_begin c n m p s flip = flip_begins c p n m (at owners) (at objects) s e (at predecessors) (at ranks) flip

  pub flips_end : (h : ℕ) (owners2 objects2 : List ℕ) → h ≡ 0 →
      FlipsFrom owners objects predecessors ranks e h owners2 objects2 →
      FlipsTo owners objects predecessors ranks e owners2 objects2
  flips_end h owners2 objects2 none from c n m p s flip =
      flip_ends c p n m (at owners) (at objects) s e (at predecessors) (at ranks) flip (at owners2) (at objects2)
      (subst (λ y. IsFlipping c p n m (at owners) (at objects) s (at ranks) y (at owners2) (at objects2)) none
      (from c n m p s flip))

  module _ (able : IsFlippable owners objects predecessors ranks e) (h : ℕ) (owners2 objects2 : List ℕ) (some : h ≢ 0)
      (owners_long : length owners2 ≡ length owners) (objects_long : length objects2 ≡ length objects)
      (from : FlipsFrom owners objects predecessors ranks e h owners2 objects2) where
    positive : 0 < h
    positive = omega (arith, some)

    here : IsFlipping able.costs able.prices able.n able.m (at owners) (at objects) able.first (at ranks) h
        (at owners2) (at objects2)
    here = from able.costs able.n able.m able.prices able.first able.flip

    back : IsBack able.costs able.prices able.n able.m (at objects) able.first (at predecessors) (at ranks) h
    back = able.flip.steps h (here.ranked positive)

    pub path_room : h < length predecessors
    path_room = let a = back.within in let b = able.predecessors_long in omega arith

    pub owner_room : h < length owners2
    owner_room = let a = back.within in let b = able.owners_long in omega arith

    pub person_room : get_or predecessors h 0 < length objects2
    person_room = let a = back.last in let b = able.objects_long in omega arith

    pub flips_fall : at ranks (get_or objects2 (get_or predecessors h 0) 0) < at ranks h
    flips_fall =
        flip_falls able.costs able.prices able.n able.m (at owners) (at objects) able.first e (at predecessors)
        (at ranks) able.flip h
        (at owners2) (at objects2) (at (set owners2 h (get_or predecessors h 0)))
        (at (set objects2 (get_or predecessors h 0) h)) here positive
        (get_or-set_same objects2 (get_or predecessors h 0) h 0 person_room)
        (λ q ne. get_or-set_other objects2 (get_or predecessors h 0) q h 0 ne)
        (get_or-set_same owners2 h (get_or predecessors h 0) 0 owner_room)
        (λ j ne. get_or-set_other owners2 h j (get_or predecessors h 0) 0 ne)

    pub flips_go : FlipsFrom owners objects predecessors ranks e (get_or objects2 (get_or predecessors h 0) 0)
        (set owners2 h (get_or predecessors h 0)) (set objects2 (get_or predecessors h 0) h)
    flips_go c n m p s flip =
        flip_goes c p n m (at owners) (at objects) s e (at predecessors) (at ranks) flip h
        (at owners2) (at objects2) (at (set owners2 h (get_or predecessors h 0)))
        (at (set objects2 (get_or predecessors h 0) h)) (from c n m p s flip) positive
        (get_or-set_same objects2 (get_or predecessors h 0) h 0 person_room)
        (λ q ne. get_or-set_other objects2 (get_or predecessors h 0) q h 0 ne)
        (get_or-set_same owners2 h (get_or predecessors h 0) 0 owner_room)
        (λ j ne. get_or-set_other owners2 h j (get_or predecessors h 0) 0 ne)
