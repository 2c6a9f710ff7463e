use Rattle.std.proofs.Common.{◌≡◌, ◌∙◌, ◌∷◌, ap, sym, Some, arith, subst}
use Rattle.derivation_cursor.proofs.Steps.{same_twice}
use Rattle.derivation_cursor.specs.At.{IsShorter, ahead_of, passed}
use Rattle.fault_walk.proofs.Behind.{one_more}
use Rattle.fault_walk.specs.Flow.{wanted_by_entry}
use Rattle.fault_walk.specs.Told.{told_more}
use Rattle.module_derivations.specs.FlatMarks.Flat.{behind, skip}
use Rattle.module_derivations.specs.Ahead.{made_by}
use Rattle.module_derivations.specs.Blocks.{entry}
use Rattle.module_derivations.specs.Empty.{made}
use Rattle.module_grammar.specs.Joined.{entries_from}
use Rattle.named_modules.specs.Faults.{entry_faults}
use Rattle.std.specs.List.{flat_map}
use Rattle.module_derivations.specs.declared.rule.TheConstants as rule
use Rattle.fault_walk.proofs.blocks.note_entries.Goals as goal

pub loop-c-preserved : goal.loop-c-preserved
loop-c-preserved c =
    let h = c.args.within.now.heads in
    let ts = c.args.within.now.things in
    let old = c.loop-c.c in
    let opened = c.rule.new.self in
    let further = c.rule-in-Some-eq190.new.self in
    let new = c.note_entry.new.c in
    let now = c.note_entry.new.told in
    let q = ahead_of opened in
    let s = ahead_of further in
    let rest = (made (skip 3 s)).entries_behind.entries in
    let passes = c.in_ok-note_entry-in-Some-eq191.ensures.passes in
    let before = c.loop-c.invariant in
    let begins : c.rule.result ≡ Some rule.ENTRIES_BEHIND = grind arith in
    let goes_on : c.rule-in-Some-eq190.result ≡ Some rule.ENTRY_NEXT = grind arith in
    let first : (made (ahead_of old)).entries_behind.entries ≡ entry s ∷ rest =
    ap (λ m. m.entries_behind.entries) c.rule.ensures.made ∙ ap (λ r. (made_by r q).entries_behind.entries) begins
    ∙ ap (λ m. (entries_from m.next_entry).entries) c.rule-in-Some-eq190.ensures.made ∙ ap (λ r. (entries_from (made_by r s).next_entry).entries) goes_on in
    let less : IsShorter (Some rule.ENTRIES_BEHIND) old opened = subst (λ r. IsShorter r old opened) begins c.rule.ensures.shorter in
    let even_less : IsShorter (Some rule.ENTRY_NEXT) opened further = subst (λ r. IsShorter r opened further) goes_on c.rule-in-Some-eq190.ensures.shorter in
    record {
      same = same_twice c.args.c.now further new (same_twice c.args.c.now opened further (same_twice c.args.c.now old opened before.same c.rule.ensures.same) c.rule-in-Some-eq190.ensures.same) passes.same;
      told =
          ap (λ x. told_more h (flat_map (entry_faults h ts c.args.ty.now) (made x).entries_behind.entries) (flat_map (wanted_by_entry h) (made x).entries_behind.entries) now) passes.behind
          ∙ one_more h (entry_faults h ts c.args.ty.now) (wanted_by_entry h) c.loop-c.told now (entry s) (made (ahead_of old)).entries_behind.entries rest first c.in_ok-note_entry-in-Some-eq191.ensures.told
          ∙ before.told;
      behind =
          ap behind passes.behind ∙ sym (c.rule-in-Some-eq190.ensures.behind ∙ ap (λ r. passed r s) goes_on)
          ∙ sym (c.rule.ensures.behind ∙ ap (λ r. passed r q) begins) ∙ before.behind;
      shorter = omega (arith, less, even_less, passes.shorter, before.shorter);
    }
