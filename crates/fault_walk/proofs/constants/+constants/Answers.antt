use Rattle.std.proofs.Common.{◌≡◌, ◌∙◌, ◌++◌, [], ◌∷◌, List, map, sym, ap, subst, rules}
use Rattle.std.proofs.lemmas.List.{append-nil}
use Rattle.std.proofs.lemmas.Result.{on_ok_weaker}
use Rattle.derivation_cursor.specs.At.{ahead_of}
use Rattle.module_derivations.specs.FlatMarks.Flat.{behind, skip}
use Rattle.ir_core.specs.Typing.{Index}
use Rattle.module_derivations.specs.Empty.{made, said}
use Rattle.module_derivations.specs.Parts.{Part}
use Rattle.module_derivations.specs.Said.{place_of}
use Rattle.module_derivations.specs.Types.{any_type}
use Rattle.module_grammar.specs.declared.constants.ConstText.{ConstText, Global, Int, Null, Undef}
use Rattle.module_grammar.specs.declared.types.TypeText.{TypeText}
use Rattle.module_spelling.specs.Blocks.{wanted_by_const}
use Rattle.named_modules.specs.Faults.{const_faults}
use Rattle.fault_walk.specs.Indices.{IsPath, const_index, index_at}
use Rattle.fault_walk.specs.Told.{told_more}
use Rattle.fault_walk.specs.declared.constants.Stated.{Stated}
use Rattle.fault_walk.proofs.ConstCases.{cast_found, element_found, index_more, null_found, of_global, of_int, of_undef, part_more}
use Rattle.fault_walk.proofs.Differ.{differ}
use Rattle.fault_walk.proofs.constants.+constants.Goals as goal

pub note_cast-returns-clause-told : goal.note_cast-returns-clause-told
note_cast-returns-clause-told t c =
    let first = c.read_place-place.ensures.passes.behind in
    let second = c.in_ok-note_part.ensures.passes.behind ∙ ap (skip 3) first in
    cast_found c.args.sight.now _ c.read_place-place.result _ _ _ _ _ _ c.args.ty.now c.in_ok-target.target c.same_ty.result c.from.result c.args.told.now c.note_part.new.told c.read_known.new.told _
    c.read_place-place.ensures.said (ap any_type first) (ap (λ (s : List Part). (made (skip 2 s)).constant) first) (ap any_type second)
    c.in_ok-target.ensures.known c.same_ty.ensures c.from.ensures c.in_ok-note_part.ensures.told c.in_ok-target.ensures.told c.note_unless.ensures

pub note_const-returns-in-Some-eq99-clause-told : goal.note_const-returns-in-Some-eq99-clause-told
note_const-returns-in-Some-eq99-clause-told t c =
    let h = c.args.sight.now in
    let i = (made (ahead_of c.rule.new.self)).integer in
    let is : (made (ahead_of c.args.c.now)).constant ≡ Int i = search rules in
    on_ok_weaker c.note_int.result
    (λ told. told ∙ sym (ap (λ (w : ConstText). told_more h (const_faults h w c.args.ty.now) (wanted_by_const h w) c.args.told.now) is ∙ of_int h i c.args.ty.now c.args.told.now))
    c.note_int.ensures.told

pub note_const-returns-in-Some-eq100-clause-told : goal.note_const-returns-in-Some-eq100-clause-told
note_const-returns-in-Some-eq100-clause-told t c =
    let h = c.args.sight.now in
    let start = place_of (said (ahead_of c.rule.new.self)) in
    let is : (made (ahead_of c.args.c.now)).constant ≡ Null start = search rules in
    null_found h start c.read_place-place.result c.args.ty.now c.is_pointer.result c.from.result c.args.told.now c.note_unless.new.told
    c.read_place-place.ensures.said c.is_pointer.ensures c.from.ensures c.note_unless.ensures
    ∙ sym (ap (λ (w : ConstText). told_more h (const_faults h w c.args.ty.now) (wanted_by_const h w) c.args.told.now) is)

pub note_const-returns-in-Some-eq101-clause-told : goal.note_const-returns-in-Some-eq101-clause-told
note_const-returns-in-Some-eq101-clause-told t c =
    let h = c.args.sight.now in
    let is : (made (ahead_of c.args.c.now)).constant ≡ Undef = search rules in
    sym (ap (λ (w : ConstText). told_more h (const_faults h w c.args.ty.now) (wanted_by_const h w) c.args.told.now) is ∙ of_undef h c.args.ty.now c.args.told.now)

pub note_const-returns-in_ok-note_global-in-Some-eq102-clause-told : goal.note_const-returns-in_ok-note_global-in-Some-eq102-clause-told
note_const-returns-in_ok-note_global-in-Some-eq102-clause-told t c =
    let h = c.args.sight.now in
    let name = (made (ahead_of c.rule.new.self)).global_name in
    let is : (made (ahead_of c.args.c.now)).constant ≡ Global name = search rules in
    c.in_ok-note_global-in-Some-eq102.ensures.told
    ∙ sym (ap (λ (w : ConstText). told_more h (const_faults h w c.args.ty.now) (wanted_by_const h w) c.args.told.now) is ∙ of_global h name c.args.ty.now c.args.told.now)

pub note_const-returns-in_default-clause-told : goal.note_const-returns-in_default-clause-told
note_const-returns-in_default-clause-told t c =
    let h = c.args.sight.now in
    let is : (made (ahead_of c.args.c.now)).constant ≡ Undef = search (rules, differ) in
    sym (ap (λ (w : ConstText). told_more h (const_faults h w c.args.ty.now) (wanted_by_const h w) c.args.told.now) is ∙ of_undef h c.args.ty.now c.args.told.now)

pub note_element-returns-clause-told : goal.note_element-returns-clause-told
note_element-returns-clause-told t c =
    let h = c.args.sight.now in
    let here = c.read_place-place.ensures.passes.behind in
    let one : ahead_of c.skip_part.new.c ≡ skip 2 (ahead_of c.args.c.now) = c.skip_part.ensures.behind ∙ ap behind here in
    let two : ahead_of c.read_stated.new.c ≡ skip 4 (ahead_of c.args.c.now) = c.in_ok-of.ensures.passes.behind ∙ ap (skip 2) one in
    let three : ahead_of c.note_part.new.c ≡ skip 7 (ahead_of c.args.c.now) = c.in_ok-base.ensures.passes.behind ∙ ap (skip 3) two in
    let of = any_type (ahead_of c.skip_part.new.c) in
    let qs = (made (ahead_of c.note_part.new.c)).more_consts in
    element_found h _ c.read_place-place.result _ _ of _ _ _ _ _ qs c.args.ty.now c.in_ok-of.of.ty c.in_ok-base.base.0 c.leads_to.result c.from.result
    c.args.told.now c.read_stated.new.told c.note_part.new.told c.note_indices.new.told c.note_path.new.told _
    c.read_place-place.ensures.said (ap any_type one) (ap any_type two) (ap (λ (s : List Part). (made (skip 2 s)).constant) two) (ap (λ (s : List Part). (made s).more_consts) three)
    (ap (λ (s : Stated). s.ty) c.in_ok-of.ensures.stated) (ap (λ (i : Index). i.ty) c.in_ok-base.ensures.index)
    (c.leads_to.ensures h.types c.in_ok-of.of.ty (map const_index qs) c.in_ok-path.ensures.path) c.from.ensures
    c.in_ok-of.ensures.told c.in_ok-base.ensures.told c.in_ok-path.ensures.told
    (c.note_path.ensures of (map const_index qs) c.in_ok-of.ensures.stated c.in_ok-path.ensures.path) c.note_unless.ensures

pub note_indices-loop-c-preserved : goal.note_indices-loop-c-preserved
note_indices-loop-c-preserved t c =
    let h = c.args.sight.now in
    let s = ahead_of c.rule.new.self in
    let part : TypeText × ConstText = (any_type s, (made (skip 2 s)).constant) in
    let left = (made (ahead_of c.note_part.new.c)).more_consts in
    let here : (made (ahead_of c.loop-c.c)).more_consts ≡ part ∷ left = search rules in
    let before = c.loop-c.invariant.path.0 in
    record {
      same = search rules;
      path = (
        before ++ index_at c.in_ok-ty-in-Some-eq106.ty c.in_ok-ty-in-Some-eq106.number ∷ [],
        index_more before _ _ part left _ here c.in_ok-ty-in-Some-eq106.ensures.index c.loop-c.invariant.path.1,
        c.step.ensures c.args.of.now before c.loop-c.invariant.path.2,
      );
      told = part_more h part left _ c.loop-c.told c.note_part.new.told _ here c.in_ok-ty-in-Some-eq106.ensures.told c.loop-c.invariant.told;
      behind = search rules;
      shorter = search rules;
    }

pub note_indices-returns-in_default-clause-path : goal.note_indices-returns-in_default-clause-path
note_indices-returns-in_default-clause-path t c =
    let before = c.loop-c.invariant.path.0 in
    let none : (made (ahead_of c.loop-c.c)).more_consts ≡ [] = search (rules, differ) in
    subst (λ (is : List Index). IsPath c.args.sight.now.types c.args.of.now is c.loop-c.path)
    (sym (append-nil before) ∙ sym (ap (λ (qs : List (TypeText × ConstText)). before ++ map const_index qs) none) ∙ c.loop-c.invariant.path.1)
    c.loop-c.invariant.path.2
