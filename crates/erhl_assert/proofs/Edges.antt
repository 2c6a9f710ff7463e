-- What is known where facts are added one at a time: of a hint's lists, and over an edge.
use Rattle.std.proofs.Common.{◌≡◌, ◌∙◌, List, [], ◌∷◌, refl, sym}
use Rattle.std.specs.List.{filter_map}
use Rattle.erhl_assert.specs.declared.facts.Fact.{Fact}
use Rattle.erhl_assert.specs.declared.facts.Assertion.{Assertion}
use Rattle.erhl_assert.specs.declared.facts.Side.{Side}
use Rattle.erhl_assert.specs.declared.facts.Side.TheVariants.{Src, Tgt}
use Rattle.erhl_assert.specs.Facts.{with_facts, each_once}
use Rattle.erhl_assert.specs.Edges.{Edge, without_old, as_old, phi_facts, diff_over, after_edge}
use Rattle.erhl_assert.specs.Course.{Gives, Course, gives, and_then}
use Rattle.erhl_assert.specs.Growth.{with_conclusion, adds_all, put_in, without_phis, over_edge}
use Rattle.erhl_assert.proofs.Courses.{adds_all_ends, then_ends, with_all}

-- of a hint's lists each fact is known once
pub put_in_ends : (lists : Assertion) → (put_in lists).ends ≡ Gives (each_once lists)
put_in_ends lists =
    let none : Assertion = record { src = []; tgt = []; diff = lists.diff } in
    then_ends (adds_all Src lists.src none) (with_all Src lists.src none) (adds_all Tgt lists.tgt) (adds_all_ends Src lists.src none)
    ∙ adds_all_ends Tgt lists.tgt (with_all Src lists.src none)

pub put_in_gives : (lists after : Assertion) → (put_in lists).ends ≡ Gives after → after ≡ each_once lists
put_in_gives lists after h = let e : Gives after ≡ Gives (each_once lists) = sym h ∙ put_in_ends lists in cc

-- over an edge a course comes to what is known after it
module _ (e : Edge) (known : Assertion) where
  abbrev kept : Assertion
  kept = without_old known

  abbrev half : Assertion
  half = with_all Src (filter_map as_old kept.src) kept

  abbrev copied : Assertion
  copied = with_all Tgt (filter_map as_old kept.tgt) half

  abbrev more : Assertion
  more = with_all Src (phi_facts e.from e.source) (without_phis e copied)

  abbrev last : Assertion → Course Assertion
  last after = gives (record after { diff = diff_over e known })

  abbrev with_target : Assertion → Course Assertion
  with_target k = and_then (adds_all Tgt (phi_facts e.from e.target) k) last

  abbrev with_source : Assertion → Course Assertion
  with_source k = and_then (adds_all Src (phi_facts e.from e.source) (without_phis e k)) with_target

  abbrev with_copies : Assertion → Course Assertion
  with_copies k = and_then (adds_all Tgt (filter_map as_old kept.tgt) k) with_source

  pub edge_ends : (over_edge e known).ends ≡ Gives (after_edge known e)
  edge_ends =
      then_ends (adds_all Src (filter_map as_old kept.src) kept) half with_copies (adds_all_ends Src (filter_map as_old kept.src) kept)
      ∙ then_ends (adds_all Tgt (filter_map as_old kept.tgt) half) copied with_source (adds_all_ends Tgt (filter_map as_old kept.tgt) half)
      ∙ then_ends (adds_all Src (phi_facts e.from e.source) (without_phis e copied)) more with_target (adds_all_ends Src (phi_facts e.from e.source) (without_phis e copied))
      ∙ then_ends (adds_all Tgt (phi_facts e.from e.target) more) (with_all Tgt (phi_facts e.from e.target) more) last (adds_all_ends Tgt (phi_facts e.from e.target) more)

  pub edge_gives : (after : Assertion) → (over_edge e known).ends ≡ Gives after → after ≡ after_edge known e
  edge_gives after h = let q : Gives after ≡ Gives (after_edge known e) = sym h ∙ edge_ends in cc
