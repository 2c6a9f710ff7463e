use Rattle.std.proofs.Common.{◌≡◌, ◌∙◌, ◌++◌, ◌∷◌, [], ap, false, sym, Some, rules, arith, subst}
use Rattle.derivation_cursor.proofs.Steps.{same_twice}
use Rattle.derivation_cursor.specs.At.{IsShorter, ahead_of, passed}
use Rattle.fault_walk.proofs.Behind.{one_fault_more}
use Rattle.fault_walk.proofs.Other.{no_more_called}
use Rattle.fault_walk.specs.Told.{faults_more}
use Rattle.module_derivations.specs.FlatMarks.Flat.{behind, skip}
use Rattle.module_derivations.specs.Ahead.{made_by}
use Rattle.module_derivations.specs.Empty.{made}
use Rattle.module_derivations.specs.Types.{any_type}
use Rattle.module_grammar.specs.Joined.{called_from}
use Rattle.module_walk.proofs.Onto.{mapped_onto}
use Rattle.named_modules.specs.Faults.{type_faults}
use Rattle.named_modules.specs.Types.{type_of}
use Rattle.std.specs.List.{flat_map}
use Rattle.module_derivations.specs.declared.rule.TheConstants as rule
use Rattle.module_grammar.specs.declared.types.NextCalledText.TheVariants as next_called
use Rattle.fault_walk.proofs.lines.read_next_called.Goals as goal

pub returns-in_default-rule-clause-told : goal.returns-in_default-rule-clause-told
returns-in_default-rule-clause-told c =
    let g = c.args.sight.now in
    let old = c.loop-types.c in
    let told = c.loop-types.told in
    let now = c.read_known.new.told in
    let before = c.loop-types.invariant in
    let q = ahead_of c.rule.new.self in
    let passes = c.in_ok-read_known-in-Some-eq90.ensures.passes in
    let begins : c.rule.result ≡ Some rule.CALLED_TYPE = grind arith in
    let read : now ≡ faults_more (type_faults g (any_type q)) told = c.in_ok-read_known-in-Some-eq90.ensures.told in
    let opens : called_from (made (ahead_of old)).next_called ≡ called_from (next_called.Type (any_type q) (made (skip 2 q)).more_called) =
    ap (λ m. called_from m.next_called) c.rule.ensures.made ∙ ap (λ r. called_from (made_by r q).next_called) begins in
    let rest = (made (skip 2 q)).more_called.types in
    let none : (made (ahead_of c.read_known.new.c)).more_called ≡ record { types = []; is_open = false } = search (rules, no_more_called) in
    let ended : rest ≡ [] = sym (ap (λ x. (made x).more_called.types) passes.behind) ∙ ap (λ m. m.types) none in
    sym (ap (λ ys. faults_more (flat_map (type_faults g) ys) now) ended)
    ∙ one_fault_more (type_faults g) told now (any_type q) (called_from (made (ahead_of old)).next_called).types rest (ap (λ w. w.types) opens) read
    ∙ before.told

pub loop-types-preserved : goal.loop-types-preserved
loop-types-preserved c =
    let g = c.args.sight.now in
    let old = c.loop-types.c in
    let told = c.loop-types.told in
    let now = c.read_known.new.told in
    let before = c.loop-types.invariant in
    let q = ahead_of c.rule.new.self in
    let passes = c.in_ok-read_known-in-Some-eq90.ensures.passes in
    let begins : c.rule.result ≡ Some rule.CALLED_TYPE = grind arith in
    let read : now ≡ faults_more (type_faults g (any_type q)) told = c.in_ok-read_known-in-Some-eq90.ensures.told in
    let opens : called_from (made (ahead_of old)).next_called ≡ called_from (next_called.Type (any_type q) (made (skip 2 q)).more_called) =
    ap (λ m. called_from m.next_called) c.rule.ensures.made ∙ ap (λ r. called_from (made_by r q).next_called) begins in
    let new = c.rule-in-Some-eq90.new.self in
    let s = ahead_of new in
    let further = called_from (made s).next_called in
    let goes_on : c.rule-in-Some-eq90.result ≡ Some rule.MORE_CALLED = grind arith in
    let more : (made (skip 2 q)).more_called ≡ further =
    sym (ap (λ x. (made x).more_called) passes.behind) ∙ ap (λ m. m.more_called) c.rule-in-Some-eq90.ensures.made ∙ ap (λ r. (made_by r s).more_called) goes_on in
    let whole : called_from (made (ahead_of old)).next_called ≡ called_from (next_called.Type (any_type q) further) =
    opens ∙ ap (λ m. called_from (next_called.Type (any_type q) m)) more in
    let pushed : c.push.new.self ≡ c.loop-types.types ++ type_of (any_type q) ∷ [] =
    c.in_ok-push-in-Some-eq90.ensures.ok ∙ ap (λ u. c.loop-types.types ++ u ∷ []) c.in_ok-read_known-in-Some-eq90.ensures.known in
    let less : IsShorter (Some rule.CALLED_TYPE) old c.rule.new.self = subst (λ r. IsShorter r old c.rule.new.self) begins c.rule.ensures.shorter in
    let even_less : IsShorter (Some rule.MORE_CALLED) c.read_known.new.c new = subst (λ r. IsShorter r c.read_known.new.c new) goes_on c.rule-in-Some-eq90.ensures.shorter in
    record {
      same =
          same_twice c.args.c.now c.read_known.new.c new
          (same_twice c.args.c.now c.rule.new.self c.read_known.new.c (same_twice c.args.c.now old c.rule.new.self before.same c.rule.ensures.same) passes.same)
          c.rule-in-Some-eq90.ensures.same;
      types = ap (λ ts. mapped_onto type_of ts further.types) pushed ∙ sym (ap (λ w. mapped_onto type_of c.loop-types.types w.types) whole) ∙ before.types;
      is_open = sym (ap (λ w. w.is_open) whole) ∙ before.is_open;
      told =
          one_fault_more (type_faults g) told now (any_type q) (called_from (made (ahead_of old)).next_called).types further.types (ap (λ w. w.types) whole) read
          ∙ before.told;
      behind =
          sym (c.rule-in-Some-eq90.ensures.behind ∙ ap (λ r. passed r s) goes_on) ∙ ap behind passes.behind
          ∙ sym (c.rule.ensures.behind ∙ ap (λ r. passed r q) begins) ∙ before.behind;
      shorter = omega (arith, less, even_less, passes.shorter, before.shorter);
    }
