-- What one side knows, and holds, over a calm line.
use Rattle.std.proofs.Common.{◌≡◌, ◌∙◌, ap, subst}
use Rattle.ir_core.specs.declared.functions.Calm.{Calm}
use Rattle.ir_core.specs.declared.functions.Instr.TheVariants as line
use Rattle.ir_core.specs.declared.values.Value.{Value}
use Rattle.ir_core.specs.Expressions.{type_of}
use Rattle.ir_core.specs.Types.{kind_of}
use Rattle.ir_values.specs.Constants.{Scope}
use Rattle.ir_values.specs.declared.operations.Outcome.TheVariants.{Gives}
use Rattle.ir_values.specs.Operations.{GivesInKind}
use Rattle.ir_machine.specs.Keeps.{IsMade}
use Rattle.ir_machine.specs.Machine.{set_to}
use Rattle.ir_machine.specs.Registers.{outcome, read}
use Rattle.ir_machine.proofs.Holding.{GivesAmong, outcome_among, set_among}
use Rattle.ir_machine.proofs.InKind.{outcome_in_kind}
use Rattle.ir_machine.proofs.Runs.{set_in_kind}
use Rattle.erhl_assert.specs.Postcondition.{line_kills}
use Rattle.erhl_assert.specs.Sides.{IsFine, SideState}
use Rattle.erhl_soundness.specs.MemoryLaws.{CalmLinesKeepWhatHolds, side_set}
use Rattle.erhl_soundness.specs.TwoSides.{HoldsMade}
use Rattle.erhl_soundness.proofs.Kills.{killed_hold}
use Rattle.erhl_soundness.proofs.Lines.{adds_hold, leaves}
use Rattle.erhl_soundness.proofs.Made.{constants_made}

module _ (side : SideState) (l : Calm) (v : Value) (fine : IsFine side) (gives : outcome side.scope (read side.files.now) side.world.memory l.right ≡ Gives v) where
  pub set_fine : IsFine (side_set l v side)
  set_fine = record {
    now = set_in_kind side.files.now l.name (kind_of (type_of l.right)) v fine.now
        (subst (GivesInKind (kind_of (type_of l.right))) gives (outcome_in_kind side.scope (read side.files.now) (λ k x. fine.now x k) side.world.memory fine.bytes l.right));
    old = fine.old;
    ghost = fine.ghost;
    bytes = fine.bytes;
    globals = fine.globals;
    named = fine.named;
    once = fine.once;
  }

  pub set_made : HoldsMade side → HoldsMade (side_set l v side)
  set_made held = record {
    now = set_among (IsMade side.world.memory) side.files.now l.name (kind_of (type_of l.right)) v held.now
        (subst (GivesAmong (IsMade side.world.memory)) gives
        (outcome_among (IsMade side.world.memory) side.scope (constants_made side fine.named held.names) side.files.now held.now side.world.memory held.bytes l.right));
    old = held.old;
    ghost = held.ghost;
    others = held.others;
    bytes = held.bytes;
    names = held.names;
  }

pub calm_lines_keep : CalmLinesKeepWhatHolds
calm_lines_keep side l v one_sided fine gives = record {
  leads = λ m frame rest scope.
      ap (λ (here : Scope). set_to (kind_of (type_of l.right)) l.name (outcome here (read side.files.now) side.world.memory l.right)
      (record frame { registers = side.files.now; own = side.own }) rest side.world) scope
      ∙ ap (λ o. set_to (kind_of (type_of l.right)) l.name o (record frame { registers = side.files.now; own = side.own }) rest side.world) gives;
  fine = set_fine side l v fine gives;
  made = set_made side l v fine gives;
  left = λ known all. killed_hold side fine.named (side_set l v side) (line_kills (line.Calm l)) (leaves side l v gives fine.named) known all;
  added = adds_hold side l v gives;
}
