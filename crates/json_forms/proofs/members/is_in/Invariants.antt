use Rattle.std.proofs.Common.{◌≡◌, drop}
use Rattle.json_forms.specs.Forms.{texts, is_one_of}
use Rattle.json_forms.proofs.members.is_in.Given as goal

abbrev pub invariant-loop-k : goal.invariant-loop-k
invariant-loop-k l = is_one_of (texts (drop l.k-index l.keys)) l.key ≡ is_one_of (texts l.keys) l.key
