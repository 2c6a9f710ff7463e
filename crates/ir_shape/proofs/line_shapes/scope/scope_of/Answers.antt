use Rattle.ir_typing.specs.ShapeKinds.Kept.{type_in}
use Rattle.ir_shape.proofs.LineShapes.Scopes as known
use Rattle.ir_shape.proofs.line_shapes.scope.scope_of.Goals as goal

pub returns-clause-types : goal.returns-clause-types
returns-clause-types c =
    known.types_told c.args.assumed c.args.beside.now c.args.«function».now (type_in c.in_ok-types.types) (type_in c.put_params.new.types) (type_in c.put_blocks.new.types) c.as_slice.result.now c.as_slice-blocks.result.now
    c.as_slice.ensures c.as_slice-blocks.ensures c.in_ok-types.ensures c.in_ok-params_differ.ensures.types c.in_ok-registers_differ.ensures.types

pub returns-clause-params : goal.returns-clause-params
returns-clause-params c =
    known.params_differ c.args.«function».now (type_in c.in_ok-types.types) c.as_slice.result.now c.in_ok-params_differ.params_differ c.as_slice.ensures c.in_ok-types.ensures c.in_ok-params_differ.ensures.new

pub returns-clause-names : goal.returns-clause-names
returns-clause-names c =
    known.names_differ c.args.assumed c.args.beside.now c.args.«function».now (type_in c.in_ok-types.types) (type_in c.put_params.new.types) (type_in c.put_blocks.new.types) c.as_slice.result.now c.as_slice-blocks.result.now
    c.in_ok-labels.labels c.in_ok-params_differ.params_differ c.in_ok-registers_differ.registers_differ c.in_ok-labels_differ.labels_differ c.have_own_names.result c.both-told_once.result c.both-labels_stand_once.result c.both-names_differ.result
    c.as_slice.ensures c.as_slice-blocks.ensures c.in_ok-types.ensures c.in_ok-params_differ.ensures.types c.in_ok-registers_differ.ensures.types c.in_ok-labels.ensures
    c.in_ok-params_differ.ensures.new c.in_ok-registers_differ.ensures.new c.in_ok-labels_differ.ensures.new c.have_own_names.ensures c.both-told_once.ensures c.both-labels_stand_once.ensures c.both-names_differ.ensures
