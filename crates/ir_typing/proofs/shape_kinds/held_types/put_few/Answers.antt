use Rattle.std.proofs.Common.{◌≡◌, ◌<◌, ◌≤◌, ◌∙◌, List, length, not, refl, sym, ap, subst, arith}
use Rattle.std.specs.Option.{option_copied}
use Rattle.ir_typing.specs.declared.shape_kinds.held_types.Told.{Told}
use Rattle.ir_typing.specs.ShapeKinds.Kept.{entries_told, found_among, told_at}
use Rattle.ir_typing.proofs.ShapeKinds.Places.{is_new, is_there}
use Rattle.ir_typing.proofs.ShapeKinds.Types.{told_before, told_new}
use Rattle.ir_typing.proofs.shape_kinds.held_types.put_few.Goals as goal

pub returns-then-place_in-len-clause-types : goal.returns-then-place_in-len-clause-types
returns-then-place_in-len-clause-types c =
    let row = c.args.row.now.items in
    let name = c.args.name.now in
    let at = subst (λ (ts : List Told). told_at ts c.place_in.result ≡ found_among (entries_told ts) name) c.as_slice.ensures.value c.place_in.ensures in
    let within : c.place_in.result < length row = subst (λ (ts : List Told). c.place_in.result < length ts) c.as_slice.ensures.value (omega arith) in
    told_before row name (option_copied c.args.ty) (is_there row name c.place_in.result within at)

pub returns-clause-new : goal.returns-clause-new
returns-clause-new c =
    let row = c.args.row.now.items in
    let name = c.args.name.now in
    let at = subst (λ (ts : List Told). told_at ts c.place_in.result ≡ found_among (entries_told ts) name) c.as_slice.ensures.value c.place_in.ensures in
    let past : length row ≤ c.place_in.result = subst (λ (ts : List Told). length ts ≤ c.place_in.result) c.as_slice.ensures.value (omega arith) in
    sym (ap not (is_new row name c.place_in.result past at))

pub returns-clause-types : goal.returns-clause-types
returns-clause-types c =
    told_new c.args.row.now.items c.push.new.self.items (record { marked = c.new-marked.result; ty = c.args.ty }) c.args.name c.args.ty c.in_ok-push.ensures.items c.new-marked.ensures refl
