use Rattle.std.proofs.Common.{◌≡◌, ◌∙◌, ◌∷◌, ap, refl, sym, Some, arith, subst}
use Rattle.derivation_cursor.proofs.Steps.{same_twice}
use Rattle.derivation_cursor.specs.At.{IsShorter, ahead_of, passed}
use Rattle.fault_walk.proofs.Behind.{one_more}
use Rattle.fault_walk.specs.Told.{told_more}
use Rattle.module_derivations.specs.FlatMarks.Flat.{behind, skip}
use Rattle.module_derivations.specs.Ahead.{made_by}
use Rattle.module_derivations.specs.Blocks.{block}
use Rattle.module_derivations.specs.Empty.{made}
use Rattle.module_spelling.specs.Blocks.{wanted_by_block}
use Rattle.named_modules.specs.Faults.{block_faults}
use Rattle.std.specs.List.{flat_map}
use Rattle.module_derivations.specs.declared.rule.TheConstants as rule
use Rattle.fault_walk.proofs.blocks.note_blocks.Goals as goal

pub loop-c-init : goal.loop-c-init
loop-c-init g c =
    let h = c.args.within.now.heads in
    let ts = c.args.within.now.things in
    let s = ahead_of c.args.c.now in
    let t = c.args.told.now in
    let calls = g.S.Gaps.called c.args.around.now in
    let rest = (made (skip 4 s)).blocks in
    let a = c.note_block.new.told in
    let passes = c.in_ok-note_block.ensures.passes in
    record {
      same = passes.same;
      told =
          ap (λ x. told_more h (flat_map (block_faults h calls ts) (made x).blocks) (flat_map (wanted_by_block h) (made x).blocks) a) passes.behind
          ∙ one_more h (block_faults h calls ts) (wanted_by_block h) t a (block s) (block s ∷ rest) rest refl c.in_ok-note_block.ensures.told;
      behind = ap behind passes.behind;
      shorter = passes.shorter;
    }

pub loop-c-preserved : goal.loop-c-preserved
loop-c-preserved g c =
    let h = c.args.within.now.heads in
    let ts = c.args.within.now.things in
    let calls = g.S.Gaps.called c.args.around.now in
    let old = c.loop-c.c in
    let opened = c.rule.new.self in
    let new = c.note_block-in-Some-eq183.new.c in
    let now = c.note_block-in-Some-eq183.new.told in
    let s = ahead_of opened in
    let rest = (made (skip 4 s)).blocks in
    let passes = c.in_ok-note_block-in-Some-eq183.ensures.passes in
    let before = c.loop-c.invariant in
    let begins : c.rule.result ≡ Some rule.BLOCKS = grind arith in
    let first : (made (ahead_of old)).blocks ≡ block s ∷ rest = ap (λ m. m.blocks) c.rule.ensures.made ∙ ap (λ r. (made_by r s).blocks) begins in
    let less : IsShorter (Some rule.BLOCKS) old opened = subst (λ r. IsShorter r old opened) begins c.rule.ensures.shorter in
    record {
      same = same_twice c.args.c.now opened new (same_twice c.args.c.now old opened before.same c.rule.ensures.same) passes.same;
      told =
          ap (λ x. told_more h (flat_map (block_faults h calls ts) (made x).blocks) (flat_map (wanted_by_block h) (made x).blocks) now) passes.behind
          ∙ one_more h (block_faults h calls ts) (wanted_by_block h) c.loop-c.told now (block s) (made (ahead_of old)).blocks rest first c.in_ok-note_block-in-Some-eq183.ensures.told
          ∙ before.told;
      behind = ap behind passes.behind ∙ sym (c.rule.ensures.behind ∙ ap (λ r. passed r s) begins) ∙ before.behind;
      shorter = omega (arith, less, passes.shorter, before.shorter);
    }
