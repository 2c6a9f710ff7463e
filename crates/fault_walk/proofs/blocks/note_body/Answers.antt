use Rattle.std.proofs.Common.{◌≡◌, ◌∙◌, ◌++◌, [], ap, sym, Some, rules, arith, subst}
use Rattle.derivation_cursor.proofs.Steps.{same_twice}
use Rattle.derivation_cursor.specs.At.{IsShorter, ahead_of, passed}
use Rattle.fault_walk.proofs.Behind.{in_turn, on_ok, regrouped}
use Rattle.fault_walk.proofs.Joined.{told_joined}
use Rattle.fault_walk.proofs.Other.{no_line_told}
use Rattle.fault_walk.specs.Flow.{body_faults, node_faults, wanted_by_body, wanted_by_node}
use Rattle.fault_walk.specs.Told.{told_more}
use Rattle.module_derivations.specs.FlatMarks.Flat.{behind, skip}
use Rattle.module_derivations.specs.Ahead.{made_by}
use Rattle.module_derivations.specs.Blocks.{node}
use Rattle.module_derivations.specs.Empty.{made, no_attached}
use Rattle.module_grammar.specs.Joined.{with_register}
use Rattle.module_spelling.specs.Blocks.{wanted_by_instruction, wanted_by_line, wanted_by_phi}
use Rattle.module_walk.proofs.Others.{no_behind_register, no_body}
use Rattle.named_modules.specs.Faults.{instruction_faults, line_faults, phi_faults}
use Rattle.std.specs.List.{flat_map}
use Rattle.module_derivations.specs.declared.rule.TheConstants as rule
use Rattle.module_grammar.specs.declared.flow.BehindText.TheVariants as behind_text
use Rattle.fault_walk.proofs.blocks.note_body.Goals as goal

pub loop-c-preserved : goal.loop-c-preserved
loop-c-preserved g c =
    let h = c.args.within.now.heads in
    let ts = c.args.within.now.things in
    let calls = g.S.Gaps.called c.args.around.now in
    let old = c.loop-c.c in
    let opened = c.rule.new.self in
    let further = c.rule-in-Some-eq185.new.self in
    let before = c.loop-c.invariant in
    let q = ahead_of opened in
    let s = ahead_of further in
    let register = (made q).register in
    let begins : c.rule.result ≡ Some rule.BODY = grind arith in
    let skipped : ahead_of c.skip_part.new.c ≡ behind q = c.skip_part.ensures.behind in
    let opens : (made (ahead_of old)).body ≡ with_register register (made (ahead_of c.skip_part.new.c)).behind_register =
    ap (λ m. m.body) c.rule.ensures.made ∙ ap (λ r. (made_by r q).body) begins ∙ sym (ap (λ x. with_register register (made x).behind_register) skipped) in
    let new = c.note_node.new.c in
    let now = c.note_node.new.told in
    let told = c.loop-c.told in
    let rest = (made (skip 6 s)).body in
    let passes = c.in_ok-note_node-in-Some-eq186.ensures.passes in
    let goes_on : c.rule-in-Some-eq185.result ≡ Some rule.BEHIND_PHI = grind arith in
    let is : (made (ahead_of old)).body ≡ with_register register (behind_text.Phi (node s) rest) =
    opens ∙ ap (λ m. with_register register m.behind_register) c.rule-in-Some-eq185.ensures.made ∙ ap (λ r. with_register register (made_by r s).behind_register) goes_on in
    let fs = node_faults h ts (node s) in
    let us = wanted_by_node h (node s) in
    let gs = flat_map (phi_faults h ts) rest.phis in
    let vs = flat_map (wanted_by_phi h) rest.phis in
    let ks = flat_map (line_faults h calls ts) rest.lines in
    let ws = flat_map (wanted_by_line h) rest.lines in
    let less : IsShorter (Some rule.BODY) old opened = subst (λ r. IsShorter r old opened) begins c.rule.ensures.shorter in
    let even_less : IsShorter (Some rule.BEHIND_PHI) c.skip_part.new.c further = subst (λ r. IsShorter r c.skip_part.new.c further) goes_on c.rule-in-Some-eq185.ensures.shorter in
    record {
      same =
          same_twice c.args.c.now further new
          (same_twice c.args.c.now c.skip_part.new.c further (same_twice c.args.c.now opened c.skip_part.new.c (same_twice c.args.c.now old opened before.same c.rule.ensures.same) c.skip_part.ensures.same) c.rule-in-Some-eq185.ensures.same)
          passes.same;
      told =
          ap (λ x. told_more h (body_faults h calls ts (made x).body) (wanted_by_body h (made x).body) now) passes.behind
          ∙ ap (told_more h (gs ++ ks) (vs ++ ws)) c.in_ok-note_node-in-Some-eq186.ensures.told
          ∙ sym (told_joined h fs (gs ++ ks) us (vs ++ ws) told)
          ∙ sym (regrouped h fs gs ks us vs ws told)
          ∙ sym (ap (λ b. told_more h (body_faults h calls ts b) (wanted_by_body h b) told) is)
          ∙ before.told;
      behind =
          ap behind passes.behind ∙ sym (c.rule-in-Some-eq185.ensures.behind ∙ ap (λ r. passed r s) goes_on) ∙ ap behind skipped
          ∙ sym (c.rule.ensures.behind ∙ ap (λ r. passed r q) begins) ∙ before.behind;
      shorter = omega (arith, less, even_less, c.skip_part.ensures.shorter, passes.shorter, before.shorter);
    }

pub returns-in-Some-eq187-clause-told : goal.returns-in-Some-eq187-clause-told
returns-in-Some-eq187-clause-told g c =
    let h = c.args.within.now.heads in
    let ts = c.args.within.now.things in
    let calls = g.S.Gaps.called c.args.around.now in
    let old = c.loop-c.c in
    let opened = c.rule.new.self in
    let further = c.rule-in-Some-eq185.new.self in
    let before = c.loop-c.invariant in
    let q = ahead_of opened in
    let s = ahead_of further in
    let register = (made q).register in
    let begins : c.rule.result ≡ Some rule.BODY = grind arith in
    let skipped : ahead_of c.skip_part.new.c ≡ behind q = c.skip_part.ensures.behind in
    let opens : (made (ahead_of old)).body ≡ with_register register (made (ahead_of c.skip_part.new.c)).behind_register =
    ap (λ m. m.body) c.rule.ensures.made ∙ ap (λ r. (made_by r q).body) begins ∙ sym (ap (λ x. with_register register (made x).behind_register) skipped) in
    let told = c.loop-c.told in
    let a = c.note_attach.new.told in
    let d = c.note_lines.new.told in
    let w = (made s).attach.instruction in
    let ls = (made (behind s)).lines in
    let goes_on : c.rule-in-Some-eq185.result ≡ Some rule.BEHIND_LINE = grind arith in
    let is : (made (ahead_of old)).body ≡ with_register register (behind_text.Line (made s).attach ls) =
    opens ∙ ap (λ m. with_register register m.behind_register) c.rule-in-Some-eq185.ensures.made ∙ ap (λ r. with_register register (made_by r s).behind_register) goes_on in
    on_ok c.note_lines.result
    (λ e. in_turn h (instruction_faults h calls ts w) (flat_map (line_faults h calls ts) ls) (wanted_by_instruction h w) (flat_map (wanted_by_line h) ls) told a d c.in_ok-note_attach-in-Some-eq187.ensures.told
    (e ∙ ap (λ x. told_more h (flat_map (line_faults h calls ts) (made x).lines) (flat_map (wanted_by_line h) (made x).lines) a) c.in_ok-note_attach-in-Some-eq187.ensures.passes.behind)
    ∙ sym (ap (λ b. told_more h (body_faults h calls ts b) (wanted_by_body h b) told) is)
    ∙ before.told)
    c.note_lines.ensures.told

pub returns-in_default-rule-clause-told : goal.returns-in_default-rule-clause-told
returns-in_default-rule-clause-told g c =
    let h = c.args.within.now.heads in
    let ts = c.args.within.now.things in
    let calls = g.S.Gaps.called c.args.around.now in
    let old = c.loop-c.c in
    let opened = c.rule.new.self in
    let further = c.rule-in-Some-eq185.new.self in
    let before = c.loop-c.invariant in
    let q = ahead_of opened in
    let s = ahead_of further in
    let register = (made q).register in
    let begins : c.rule.result ≡ Some rule.BODY = grind arith in
    let skipped : ahead_of c.skip_part.new.c ≡ behind q = c.skip_part.ensures.behind in
    let opens : (made (ahead_of old)).body ≡ with_register register (made (ahead_of c.skip_part.new.c)).behind_register =
    ap (λ m. m.body) c.rule.ensures.made ∙ ap (λ r. (made_by r q).body) begins ∙ sym (ap (λ x. with_register register (made x).behind_register) skipped) in
    let told = c.loop-c.told in
    let none : (made (ahead_of c.skip_part.new.c)).behind_register ≡ behind_text.Line no_attached [] = search (rules, no_behind_register) in
    sym (ap (λ b. told_more h (body_faults h calls ts b) (wanted_by_body h b) told) (opens ∙ ap (with_register register) none) ∙ no_line_told h calls ts register told) ∙ before.told

pub returns-in_default-clause-told : goal.returns-in_default-clause-told
returns-in_default-clause-told g c =
    let h = c.args.within.now.heads in
    let ts = c.args.within.now.things in
    let calls = g.S.Gaps.called c.args.around.now in
    let told = c.loop-c.told in
    let none : (made (ahead_of c.loop-c.c)).body ≡ record { phis = []; lines = [] } = search (rules, no_body) in
    sym (ap (λ b. told_more h (body_faults h calls ts b) (wanted_by_body h b) told) none) ∙ c.loop-c.invariant.told
