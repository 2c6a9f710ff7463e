-- Lemmas for a loop over the longest front that passes a test.
use Rattle.std.proofs.lemmas.List.Sums.{prefix_len-drop_yes, prefix_len-drop_no, prefix_len-drop_all, prefix_len-le-length}
use Rattle.std.proofs.lemmas.List.{length-take-le, take_all}

pub ruleset fronts = (prefix_len-drop_yes, prefix_len-drop_no, prefix_len-drop_all, prefix_len-le-length, length-take-le, take_all)
