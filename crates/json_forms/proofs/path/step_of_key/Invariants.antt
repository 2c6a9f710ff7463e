use Rattle.std.proofs.Common.{◌≡◌, ◌∷◌, take}
use Rattle.std.specs.List.{flat_map}
use Rattle.json_forms.specs.Faults.{escaped}
use Rattle.json_forms.proofs.path.step_of_key.Given as goal

abbrev pub invariant-loop-byte : goal.invariant-loop-byte
invariant-loop-byte l = l.step.items ≡ 47 ∷ flat_map escaped (take l.byte-index l.byte-items)
