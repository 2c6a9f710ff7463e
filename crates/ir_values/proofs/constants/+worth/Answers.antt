use Rattle.std.proofs.Common.{◌≡◌, ◌∙◌, ◌∷◌, [], Bool, List, length, sym, ap, rules, arith}
use Rattle.ir_core.specs.declared.operands.Const.{Const}
use Rattle.ir_types.specs.declared.ty.Ty.{Ty}
use Rattle.ir_values.specs.Constants.{scope_of}
use Rattle.ir_values.proofs.ConstantWalks.{address_found, base_in_kind, base_typed, in_first, in_only, no_base, not_one, only_typed, only_worth, other_worth}
use Rattle.ir_values.proofs.Listed.{none_there, single}
use Rattle.ir_values.proofs.constants.+worth.Goals as goal

pub worth-start-requires : goal.worth-start-requires
worth-start-requires t c =
    let whole : c.in-Element.element.2 ≡ c.in-Some.base.now ∷ c.in-Some.indices.now = search rules in
    let less = in_first c.args.constant.now c.in-Element.element c.in-Some.base.now c.in-Some.indices.now c.in-Element.is whole in
    let typed = base_typed (scope_of c.args.«module».now) c.args.constant.now c.args.ty.now c.in-Element.element c.in-Element.is c.in-Some.base.now c.in-Some.indices.now whole c.requires.typed in
    (omega (arith, less, c.decreases), typed)

pub part_address-requires : goal.part_address-requires
part_address-requires t c =
    let whole : c.in-Element.element.2 ≡ c.in-Some.base.now ∷ c.in-Some.indices.now = search rules in
    record {
      base = base_in_kind (scope_of c.args.«module».now) c.args.constant.now c.args.ty.now c.in-Element.element c.in-Element.is c.in-Some.base.now c.in-Some.indices.now whole c.requires.typed
          c.worth-start.result c.worth-start.ensures;
    }

pub returns-in-Some : goal.returns-in-Some
returns-in-Some t c =
    let whole : c.in-Element.element.2 ≡ c.in-Some.base.now ∷ c.in-Some.indices.now = search rules in
    address_found (scope_of c.args.«module».now) c.args.constant.now c.args.ty.now c.in-Element.element c.in-Element.is c.in-Some.base.now c.in-Some.indices.now whole c.requires.typed
    c.worth-start.result c.worth-start.ensures c.get-element.result.now c.get-element.ensures c.part_address.result c.part_address.ensures

pub returns-in-None : goal.returns-in-None
returns-in-None t c =
    let lent : c.as_slice-in-Element.result.now ≡ c.in-Element.element.2 = c.as_slice-in-Element.ensures ∙ ap (λ (e : Bool × Ty × List (Ty × Const)). e.2) c.get-element.ensures in
    let none : c.in-Element.element.2 ≡ [] = sym lent ∙ none_there c.as_slice-in-Element.result.now c.in-None.ensures.cases in
    no_base (scope_of c.args.«module».now) c.args.constant.now c.args.ty.now c.in-Element.element c.in-Element.is none

pub worth-requires : goal.worth-requires
worth-requires t c =
    let one = sym (c.as_slice-in-Cast.ensures ∙ ap (λ (k : Ty × List (Ty × Const)). k.1) c.get-in-Cast.ensures) ∙ single c.as_slice-in-Cast.result.now _ _ c.in-len1.len_at_least c.in-len1.len_below c.part-item.is in
    let less = in_only c.args.constant.now c.in-Cast.cast c.part-item.result c.in-Cast.is one in
    let typed = only_typed (scope_of c.args.«module».now) c.args.constant.now c.args.ty.now c.in-Cast.cast c.in-Cast.is c.part-item.result one c.requires.typed in
    (omega (arith, less, c.decreases), typed)

pub returns-in-len1 : goal.returns-in-len1
returns-in-len1 t c =
    let one = sym (c.as_slice-in-Cast.ensures ∙ ap (λ (k : Ty × List (Ty × Const)). k.1) c.get-in-Cast.ensures) ∙ single c.as_slice-in-Cast.result.now _ _ c.in-len1.len_at_least c.in-len1.len_below c.part-item.is in
    c.worth.ensures ∙ only_worth (scope_of c.args.«module».now) c.args.constant.now c.args.ty.now c.in-Cast.cast c.in-Cast.is c.part-item.result one

pub returns-in_default : goal.returns-in_default
returns-in_default t c =
    let lent : length c.as_slice-in-Cast.result.now ≡ length c.in-Cast.cast.1 = ap length (c.as_slice-in-Cast.ensures ∙ ap (λ (k : Ty × List (Ty × Const)). k.1) c.get-in-Cast.ensures) in
    other_worth (scope_of c.args.«module».now) c.args.constant.now c.args.ty.now c.in-Cast.cast c.in-Cast.is (not_one c.in-Cast.cast.1 (λ (one : length c.in-Cast.cast.1 ≡ 1). omega (arith, lent, one, c.in_default.len_below)))

pub returns-in_default-2 : goal.returns-in_default-2
returns-in_default-2 t c =
    let lent : length c.as_slice-in-Cast.result.now ≡ length c.in-Cast.cast.1 = ap length (c.as_slice-in-Cast.ensures ∙ ap (λ (k : Ty × List (Ty × Const)). k.1) c.get-in-Cast.ensures) in
    other_worth (scope_of c.args.«module».now) c.args.constant.now c.args.ty.now c.in-Cast.cast c.in-Cast.is (not_one c.in-Cast.cast.1 (λ (one : length c.in-Cast.cast.1 ≡ 1). omega (arith, lent, one, c.in_default.len_at_least)))
