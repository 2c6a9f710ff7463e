-- What is judged of two modules under hints that are read: the addresses in hints point to what their indices lead to beside the source's types.
use Rattle.std.specs.Prelude.{Option}
use Rattle.ir_core.specs.declared.modules.Module.{Module}
use Rattle.erhl_assert.specs.declared.hints.Hints.{Hints}
use Rattle.erhl_assert.specs.declared.verdict.ModuleVerdict.{ModuleVerdict}
use Rattle.erhl_assert.specs.Acceptance.{module_answer}
use Rattle.erhl_assert.specs.Steps.{Rules}
use Rattle.hint_format.specs.Settled.{settled_hints}

abbrev pub pair_answer : Rules → Module → Module → Hints → Option ModuleVerdict
pair_answer rules source target hints = module_answer rules source target (settled_hints source.types hints)
