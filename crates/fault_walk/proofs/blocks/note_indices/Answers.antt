use Rattle.std.proofs.Common.{◌≡◌, ◌∙◌, ◌++◌, ◌∷◌, [], ap, sym, Some, rules, arith, map, subst, List}
use Rattle.derivation_cursor.proofs.Steps.{same_twice}
use Rattle.derivation_cursor.specs.At.{IsShorter, ahead_of, passed}
use Rattle.fault_walk.proofs.Behind.{led_all, led_on, one_more, wanted_behind}
use Rattle.fault_walk.specs.Indices.{IsPath, index_at}
use Rattle.fault_walk.specs.Lines.{built_index}
use Rattle.fault_walk.specs.Stated.{stated}
use Rattle.fault_walk.specs.Told.{told_more}
use Rattle.module_derivations.specs.FlatMarks.Flat.{behind, skip}
use Rattle.ir_core.specs.Typing.{Index}
use Rattle.ir_types.specs.declared.ty.Ty.{Ty}
use Rattle.module_derivations.specs.Ahead.{made_by}
use Rattle.module_derivations.specs.Constants.{operand}
use Rattle.module_derivations.specs.Empty.{made}
use Rattle.module_grammar.specs.Joined.{indices_from}
use Rattle.module_grammar.specs.declared.types.TypeText.{TypeText}
use Rattle.module_spelling.specs.Blocks.{wanted_by_operand, wants_along}
use Rattle.module_walk.proofs.OtherCommas.{no_index, no_indices_behind}
use Rattle.named_modules.specs.Faults.{operand_faults}
use Rattle.std.specs.List.{flat_map}
use Rattle.module_derivations.specs.declared.rule.TheConstants as rule
use Rattle.fault_walk.proofs.blocks.note_indices.Goals as goal

pub returns-in_default-rule-clause-told : goal.returns-in_default-rule-clause-told
returns-in_default-rule-clause-told c =
    let h = c.args.within.now.heads in
    let ts = c.args.within.now.things in
    let s = ahead_of c.args.c.now in
    let t = c.args.told.now in
    let is = (made s).indices_behind.indices in
    let left = (made (ahead_of c.loop-c.c)).indices_behind.indices in
    let all = map built_index is in
    let a = c.loop-c.told in
    let b = c.note_path.new.told in
    let before = c.loop-c.invariant in
    let q = ahead_of c.rule.new.self in
    let begins : c.rule.result ≡ Some rule.INDICES_BEHIND = grind arith in
    let ended : (indices_from (made q).next_index).indices ≡ [] = search (rules, no_index) in
    let none : left ≡ [] = ap (λ m. m.indices_behind.indices) c.rule.ensures.made ∙ ap (λ r. (made_by r q).indices_behind.indices) begins ∙ ended in
    let so_far : a ≡ told_more h (flat_map (operand_faults h ts) is) (flat_map (wanted_by_operand h) is) t =
    sym (ap (λ xs. told_more h (flat_map (operand_faults h ts) xs) (flat_map (wanted_by_operand h) xs) a) none) ∙ before.told in
    let path = led_all h.types c.args.of.now.ty c.loop-c.path (map built_index left) all (ap (map built_index) none) before.path in
    let noted = subst (λ x. (w : TypeText) (indices : List Index) → c.args.of.now ≡ stated x w → IsPath x.types c.args.of.now.ty indices c.loop-c.path
    → b ≡ told_more x [] (wants_along x w indices) a) c.sight-sight.ensures c.note_path.ensures in
    λ w e. wanted_behind h (flat_map (operand_faults h ts) is) (flat_map (wanted_by_operand h) is) (wants_along h w all) t a b so_far (noted w all e path)

pub loop-c-preserved : goal.loop-c-preserved
loop-c-preserved c =
    let h = c.args.within.now.heads in
    let ts = c.args.within.now.things in
    let old = c.loop-c.c in
    let opened = c.rule.new.self in
    let further = c.rule-in-Some-eq149.new.self in
    let new = c.note_operand.new.c in
    let now = c.note_operand.new.told in
    let q = ahead_of opened in
    let s = ahead_of further in
    let xs = (made (ahead_of old)).indices_behind.indices in
    let rest = (made (skip 3 s)).indices_behind.indices in
    let i = built_index (operand s) in
    let got = c.in_ok-ty-in-Some-eq150 in
    let passes = got.ensures.passes in
    let before = c.loop-c.invariant in
    let begins : c.rule.result ≡ Some rule.INDICES_BEHIND = grind arith in
    let goes_on : c.rule-in-Some-eq149.result ≡ Some rule.INDEX_NEXT = grind arith in
    let first : xs ≡ operand s ∷ rest =
    ap (λ m. m.indices_behind.indices) c.rule.ensures.made ∙ ap (λ r. (made_by r q).indices_behind.indices) begins
    ∙ ap (λ m. (indices_from m.next_index).indices) c.rule-in-Some-eq149.ensures.made ∙ ap (λ r. (indices_from (made_by r s).next_index).indices) goes_on in
    let less : IsShorter (Some rule.INDICES_BEHIND) old opened = subst (λ r. IsShorter r old opened) begins c.rule.ensures.shorter in
    let even_less : IsShorter (Some rule.INDEX_NEXT) opened further = subst (λ r. IsShorter r opened further) goes_on c.rule-in-Some-eq149.ensures.shorter in
    let leads = subst (λ x. (of : Ty) (indices : List Index) → IsPath h.types of indices c.loop-c.path → IsPath h.types of (indices ++ x ∷ []) c.step.new.self) got.ensures.index
    (subst (λ x. (of : Ty) (indices : List Index) → IsPath x.types of indices c.loop-c.path → IsPath x.types of (indices ++ index_at got.ty got.number ∷ []) c.step.new.self) c.sight-sight.ensures c.step.ensures) in
    record {
      same = same_twice c.args.c.now further new (same_twice c.args.c.now opened further (same_twice c.args.c.now old opened before.same c.rule.ensures.same) c.rule-in-Some-eq149.ensures.same) passes.same;
      path =
          led_on h.types c.args.of.now.ty c.loop-c.path c.step.new.self i (map built_index xs) (map built_index (made (ahead_of new)).indices_behind.indices)
          (map built_index (made (ahead_of c.args.c.now)).indices_behind.indices) leads
          (ap (map built_index) first ∙ sym (ap (λ x. i ∷ map built_index (made x).indices_behind.indices) passes.behind)) before.path;
      told =
          ap (λ x. told_more h (flat_map (operand_faults h ts) (made x).indices_behind.indices) (flat_map (wanted_by_operand h) (made x).indices_behind.indices) now) passes.behind
          ∙ one_more h (operand_faults h ts) (wanted_by_operand h) c.loop-c.told now (operand s) xs rest first got.ensures.told
          ∙ before.told;
      behind =
          ap behind passes.behind ∙ sym (c.rule-in-Some-eq149.ensures.behind ∙ ap (λ r. passed r s) goes_on)
          ∙ sym (c.rule.ensures.behind ∙ ap (λ r. passed r q) begins) ∙ before.behind;
      shorter = omega (arith, less, even_less, passes.shorter, before.shorter);
    }

pub returns-in_default-clause-told : goal.returns-in_default-clause-told
returns-in_default-clause-told c =
    let h = c.args.within.now.heads in
    let ts = c.args.within.now.things in
    let s = ahead_of c.args.c.now in
    let t = c.args.told.now in
    let is = (made s).indices_behind.indices in
    let left = (made (ahead_of c.loop-c.c)).indices_behind.indices in
    let all = map built_index is in
    let a = c.loop-c.told in
    let b = c.note_path-in_default.new.told in
    let before = c.loop-c.invariant in
    let none : left ≡ [] = search (rules, no_indices_behind) in
    let so_far : a ≡ told_more h (flat_map (operand_faults h ts) is) (flat_map (wanted_by_operand h) is) t =
    sym (ap (λ xs. told_more h (flat_map (operand_faults h ts) xs) (flat_map (wanted_by_operand h) xs) a) none) ∙ before.told in
    let path = led_all h.types c.args.of.now.ty c.loop-c.path (map built_index left) all (ap (map built_index) none) before.path in
    let noted = subst (λ x. (w : TypeText) (indices : List Index) → c.args.of.now ≡ stated x w → IsPath x.types c.args.of.now.ty indices c.loop-c.path
    → b ≡ told_more x [] (wants_along x w indices) a) c.sight-sight.ensures c.note_path-in_default.ensures in
    λ w e. wanted_behind h (flat_map (operand_faults h ts) is) (flat_map (wanted_by_operand h) is) (wants_along h w all) t a b so_far (noted w all e path)
