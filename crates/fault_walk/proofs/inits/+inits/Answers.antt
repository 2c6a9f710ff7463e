use Rattle.std.proofs.Common.{◌≡◌, ◌∙◌, ◌∷◌, List, sym, ap, rules}
use Rattle.std.proofs.lemmas.Result.{on_ok_weaker}
use Rattle.derivation_cursor.specs.At.{ahead_of}
use Rattle.module_derivations.specs.FlatMarks.Flat.{skip}
use Rattle.module_derivations.specs.Empty.{made, said}
use Rattle.module_derivations.specs.Parts.{Part}
use Rattle.module_derivations.specs.Said.{bytes_of}
use Rattle.module_derivations.specs.Types.{any_type}
use Rattle.module_grammar.specs.declared.constants.InitText.{InitText, Bytes, Const, Zero}
use Rattle.module_grammar.specs.declared.types.TypeText.{TypeText}
use Rattle.module_spelling.specs.Blocks.{wanted_by_init}
use Rattle.named_modules.specs.Faults.{init_faults}
use Rattle.fault_walk.specs.Told.{told_more}
use Rattle.fault_walk.proofs.Differ.{differ}
use Rattle.fault_walk.proofs.InitCases.{array_found, of_bytes, of_const, of_zero, part_found, rest_more, struct_found}
use Rattle.fault_walk.proofs.inits.+inits.Goals as goal

pub note_array_init-returns-clause-told : goal.note_array_init-returns-clause-told
note_array_init-returns-clause-told t c =
    let here = c.read_place-place.ensures.passes.behind in
    on_ok_weaker c.note_list.result
    (λ told. array_found c.args.sight.now _ c.read_place-place.result c.count_parts-count.result _ _ c.args.ty.now _ c.args.told.now _ c.read_place-place.ensures.said
    (ap (λ (s : List Part). (made s).inits) here) c.count_parts-count.ensures c.of_array.ensures told)
    c.note_list.ensures.told

pub note_struct_init-returns-clause-told : goal.note_struct_init-returns-clause-told
note_struct_init-returns-clause-told t c =
    let here = c.read_place-place.ensures.passes.behind in
    on_ok_weaker c.note_list.result
    (λ told. struct_found c.args.sight.now _ c.read_place-place.result c.count_parts-count.result _ _ c.args.ty.now _ c.args.told.now _ c.read_place-place.ensures.said
    (ap (λ (s : List Part). (made s).inits) here) c.count_parts-count.ensures (search rules) told)
    c.note_list.ensures.told

pub note_init-returns-in_ok-note_const-in-Some-eq107-clause-told : goal.note_init-returns-in_ok-note_const-in-Some-eq107-clause-told
note_init-returns-in_ok-note_const-in-Some-eq107-clause-told t c =
    let h = c.args.sight.now in
    let k = (made (ahead_of c.rule.new.self)).constant in
    let is : (made (ahead_of c.args.c.now)).init ≡ Const k = search rules in
    c.in_ok-note_const-in-Some-eq107.ensures.told
    ∙ sym (ap (λ (w : InitText). told_more h (init_faults h w c.args.ty.now) (wanted_by_init h w) c.args.told.now) is ∙ of_const h k c.args.ty.now c.args.told.now)

pub note_init-returns-in-Some-eq108-clause-told : goal.note_init-returns-in-Some-eq108-clause-told
note_init-returns-in-Some-eq108-clause-told t c =
    let h = c.args.sight.now in
    let is : (made (ahead_of c.args.c.now)).init ≡ Zero = search rules in
    sym (ap (λ (w : InitText). told_more h (init_faults h w c.args.ty.now) (wanted_by_init h w) c.args.told.now) is ∙ of_zero h c.args.ty.now c.args.told.now)

pub note_init-returns-in-Some-eq109-clause-told : goal.note_init-returns-in-Some-eq109-clause-told
note_init-returns-in-Some-eq109-clause-told t c =
    let h = c.args.sight.now in
    let bytes = bytes_of (said (ahead_of c.rule.new.self)) in
    let is : (made (ahead_of c.args.c.now)).init ≡ Bytes bytes = search rules in
    on_ok_weaker c.note_bytes.result
    (λ told. told ∙ sym (ap (λ (w : InitText). told_more h (init_faults h w c.args.ty.now) (wanted_by_init h w) c.args.told.now) is ∙ of_bytes h bytes c.args.ty.now c.args.told.now))
    c.note_bytes.ensures.told

pub note_init-returns-in_default-clause-told : goal.note_init-returns-in_default-clause-told
note_init-returns-in_default-clause-told t c =
    let h = c.args.sight.now in
    let is : (made (ahead_of c.args.c.now)).init ≡ Zero = search (rules, differ) in
    sym (ap (λ (w : InitText). told_more h (init_faults h w c.args.ty.now) (wanted_by_init h w) c.args.told.now) is ∙ of_zero h c.args.ty.now c.args.told.now)

pub note_init_part-returns-clause-told : goal.note_init_part-returns-clause-told
note_init_part-returns-clause-told t c =
    on_ok_weaker c.note_init.result
    (λ told. part_found c.args.sight.now (any_type (ahead_of c.args.c.now)) _ _ _ c.in_ok-ty.ty c.in_ok-place.place c.is_due.result c.from.result c.args.told.now c.note_type_ahead.new.told c.note_unless.new.told _
    (ap (λ (s : List Part). (made s).init) c.in_ok-ty.ensures.passes.behind) c.in_ok-ty.ensures.built c.in_ok-place.ensures.place c.is_due.ensures c.from.ensures
    c.in_ok-place.ensures.told c.note_unless.ensures told)
    c.note_init.ensures.told

pub note_inits-returns-in_ok-note_init_part-in-Some-eq113-clause-told : goal.note_inits-returns-in_ok-note_init_part-in-Some-eq113-clause-told
note_inits-returns-in_ok-note_init_part-in-Some-eq113-clause-told t c =
    let s = ahead_of c.rule.new.self in
    let part : TypeText × InitText = (any_type s, (made (skip 2 s)).init) in
    let left = (made (ahead_of c.note_init_part.new.c)).more_inits in
    let here : (made (ahead_of c.args.c.now)).inits ≡ part ∷ left = search rules in
    on_ok_weaker c.note_more_inits.result
    (λ told. told ∙ rest_more c.args.sight.now _ _ _ part left _ c.args.told.now c.note_init_part.new.told here c.next_due.ensures.first c.next_due.ensures.others
    c.in_ok-note_init_part-in-Some-eq113.ensures.told)
    c.note_more_inits.ensures.told

pub note_more_inits-loop-dues-preserved : goal.note_more_inits-loop-dues-preserved
note_more_inits-loop-dues-preserved t c =
    let s = ahead_of c.rule.new.self in
    let part : TypeText × InitText = (any_type s, (made (skip 2 s)).init) in
    let left = (made (ahead_of c.note_init_part.new.c)).more_inits in
    let here : (made (ahead_of c.loop-dues.c)).more_inits ≡ part ∷ left = search rules in
    record {
      same = search rules;
      told = rest_more c.args.sight.now _ _ _ part left _ c.loop-dues.told c.note_init_part.new.told here c.next_due.ensures.first c.next_due.ensures.others
          c.in_ok-note_init_part-in-Some-eq115.ensures.told ∙ c.loop-dues.invariant.told;
      behind = search rules;
      shorter = search rules;
    }
