use Rattle.std.proofs.Common.{refl}
use Rattle.ir_shape.proofs.line_shapes.told.phi_kind.Goals as goal

pub returns : goal.returns
returns c =
    simp (
      c.least-3.ensures,
      c.least-2.ensures,
      c.least.ensures,
      c.fault_unless-named.ensures,
      c.is_phi_named.ensures,
      c.fault_unless-labels.ensures,
      c.entries_are_labels.ensures,
      c.fault_unless-fits.ensures,
      c.in_ok-fits_edges.ensures,
      c.least-values.ensures,
      c.fault_unless.ensures,
      c.is_first_class.ensures,
      c.entries_kind.ensures,
      c.as_slice-entries.ensures,
    ) refl
