use Rattle.std.proofs.Common.{◌≡◌, ◌∙◌, [], List, sym, ap, rules}
use Rattle.std.specs.List.{flat_map}
use Rattle.derivation_cursor.specs.At.{ahead_of}
use Rattle.module_derivations.specs.FlatMarks.Flat.{behind}
use Rattle.module_derivations.specs.Empty.{made, no_type, said}
use Rattle.module_derivations.specs.Parts.{Part}
use Rattle.module_derivations.specs.Said.{number_of, place_of, width_of}
use Rattle.module_derivations.specs.Types.{any_type}
use Rattle.module_grammar.specs.declared.types.TypeText.{TypeText, Int}
use Rattle.name_claims.specs.declared.claims.Fault.{Fault}
use Rattle.named_modules.specs.Faults.{type_faults}
use Rattle.fault_walk.specs.Told.{told_more}
use Rattle.fault_walk.proofs.Differ.{differ}
use Rattle.fault_walk.proofs.TypeCases.{array_found, of_int, of_nothing, of_pointers, of_struct}
use Rattle.fault_walk.proofs.constants.+types.Goals as goal

pub note_array-returns-clause-told : goal.note_array-returns-clause-told
note_array-returns-clause-told t c =
    let first = c.read_place-place.ensures.passes.behind in
    array_found c.args.sight.now (place_of (said (ahead_of c.args.c.now))) c.in_ok-count.count _ _ _ c.is_count.result c.at.result c.args.told.now c.note_unless.new.told _
    (c.in_ok-count.ensures.said ∙ ap (λ (s : List Part). number_of (said s)) first)
    (ap any_type (c.in_ok-count.ensures.passes.behind ∙ ap behind first)) c.is_count.ensures c.at.ensures c.note_unless.ensures c.in_ok-note_type.ensures.told

pub note_base_type-returns-in-Some-eq75-clause-told : goal.note_base_type-returns-in-Some-eq75-clause-told
note_base_type-returns-in-Some-eq75-clause-told t c =
    let h = c.args.sight.now in
    let is : (made (ahead_of c.args.c.now)).base_type ≡ Int (width_of (said (ahead_of c.rule.new.self))) = search rules in
    sym (ap (λ (w : TypeText). told_more h (type_faults h w) [] c.args.told.now) is ∙ ap (λ (fs : List Fault). told_more h fs [] c.args.told.now) (of_int h (width_of (said (ahead_of c.rule.new.self)))))

pub note_base_type-returns-in_default-clause-told : goal.note_base_type-returns-in_default-clause-told
note_base_type-returns-in_default-clause-told t c =
    let h = c.args.sight.now in
    let is : (made (ahead_of c.args.c.now)).base_type ≡ no_type = search (rules, differ) in
    sym (ap (λ (w : TypeText). told_more h (type_faults h w) [] c.args.told.now) is ∙ ap (λ (fs : List Fault). told_more h fs [] c.args.told.now) (of_nothing h))

pub note_struct-returns-clause-told : goal.note_struct-returns-clause-told
note_struct-returns-clause-told t c =
    let h = c.args.sight.now in
    let s = ahead_of c.args.c.now in
    c.in_ok-note_types.ensures.told
    ∙ ap (λ (u : List Part). told_more h (flat_map (type_faults h) (made u).types) [] c.args.told.now) c.read_place-place.ensures.passes.behind
    ∙ sym (ap (λ (fs : List Fault). told_more h fs [] c.args.told.now) (of_struct h (place_of (said s)) (made (behind s)).types))

pub note_type-returns-clause-told : goal.note_type-returns-clause-told
note_type-returns-clause-told t c =
    let h = c.args.sight.now in
    let s = ahead_of c.args.c.now in
    c.in_ok-place.ensures.told
    ∙ sym (ap (λ (fs : List Fault). told_more h fs [] c.args.told.now) (of_pointers h (made s).base_type (made (behind s)).stars))
