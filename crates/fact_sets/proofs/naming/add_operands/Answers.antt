use Rattle.std.proofs.Common.{◌≡◌, ◌∙◌, ◌+◌, List, ◌∷◌, drop, sym, ap, arith}
use Rattle.std.proofs.lemmas.List.{drop_more}
use Rattle.ir_core.specs.declared.operands.Operand.{Operand}
use Rattle.ir_core.specs.declared.expressions.Reg.{Reg}
use Rattle.fact_sets.specs.Names.{with_operands}
use Rattle.fact_sets.proofs.RegisterNames.{kept_then}
use Rattle.fact_sets.proofs.naming.add_operands.Goals as goal

pub loop-operand-preserved : goal.loop-operand-preserved
loop-operand-preserved c =
    let k = c.loop-operand.operand-index in
    let os = c.args.operands.now in
    let here : drop k os ≡ c.operand-item.result ∷ drop (k + 1) os =
    drop_more os k c.operand-item.result (omega (arith, c.loop-operand-test.true)) ∙ ap (λ (o : Operand Reg). o ∷ drop (k + 1) os) (sym c.operand-item.is) in
    record {
      named = ap (with_operands (drop (k + 1) os)) c.in_ok-add_atom.ensures.ok
          ∙ ap (λ (l : List (Operand Reg)). with_operands l c.loop-operand.names.keys) (sym here) ∙ c.loop-operand.invariant.named;
      kept = kept_then _ _ _ c.loop-operand.invariant.kept c.add_atom.ensures.kept;
    }
