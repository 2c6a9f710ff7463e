use Rattle.std.proofs.Common.{◌∙◌}
use Rattle.ir_core.specs.Functions.{typed_of}
use Rattle.erhl_checker.proofs.FunctionLookup.Defining.{defined_same}
use Rattle.erhl_checker.proofs.function_lookup.function_index.FunctionIndex.new.Goals as goal

pub invariant_of-result : goal.invariant_of-result
invariant_of-result c = (
  c.in_ok-blocks.ensures ∙ c.as_slice.ensures.value ∙ c.parts.invariant.0,
  defined_same (λ all. all.items) c.parts.inside.definitions _ (typed_of c.parts.inside.defining.now) c.in_ok-definitions.ensures c.parts.invariant.1,
  c.none.ensures,
)
