use Rattle.std.proofs.Common.{not, rules}
use Rattle.std.proofs.lemmas.Fn.{filter_same}
use Rattle.ir_types.specs.declared.names.Name.{Name}
use Rattle.ir_types.specs.Same.{same_name}
use Rattle.fact_sets.proofs.added_registers.take_out.Goals as goal

pub returns : goal.returns
returns c =
    let test = λ (n : Name). not (same_name c.args.name.now n) in
    filter_same _ test _ (λ x b f k. search rules) _ _ c.retain.ensures.filtered
