use Rattle.std.proofs.Common.{◌≡◌, length, filter, take}
use Rattle.ir_types.specs.declared.names.Name.{Name}
use Rattle.ir_types.specs.Same.{same_name}
use Rattle.line_align.specs.Grouped.{group_of}
use Rattle.line_align.proofs.by_name.ByName.new.Given as goal

-- the things so far are kept by their names
abbrev pub invariant-loop-item : goal.invariant-loop-item
invariant-loop-item g l = record {
  many : length l.groups.items ≡ length l.names;
  grouped : (x : Name) → group_of x l.names l.groups.items ≡ filter (λ item. same_name (g.T.Named.named item) x) (take l.item-index l.items);
}
