-- The tests are computed; the other parts are refused by their first fact.
use Rattle.std.proofs.Common.{◌≡◌, ◌∙◌, ◌^◌, ℕ, zero, suc, true, false, Option, None, Some, refl, sym, arith, pow-suc}
use Rattle.ir_types.specs.declared.names.Name.{Name}
use Rattle.ir_types.specs.declared.ty.Ty.{Void}
use Rattle.named_modules.specs.Lines.{IsResultNamed}
use Rattle.named_modules.specs.Values.{IsAlign}
use Rattle.module_texts.proofs.NamedModuleLaws.Folds.{pointed}
use Rattle.module_texts.proofs.NamedModuleLaws.Fits.{constants_fit, named as fitting}
use Rattle.module_texts.specs.NamedModuleLaws.Words.{named, negative, positive, z}
use Rattle.module_texts.specs.NamedModuleLaws.Judged.{TypesAreJudged, ConstantsAreJudged, InitialisersAreJudged, PartsAreJudged}

pub types_are_judged : TypesAreJudged
types_are_judged = record {
  unknown = simp fitting refl;
  negative_count = simp fitting refl;
  too_many = simp fitting refl;
  array_value = simp fitting refl;
  named_value = simp fitting refl;
  known = simp fitting refl;
  known_pointer = simp fitting refl;
}

pub constants_are_judged : ConstantsAreJudged
constants_are_judged = record {
  too_high = simp fitting refl;
  truth_of_byte = simp fitting refl;
  null_of_byte = simp fitting refl;
  number_of_pointer = simp fitting refl;
  another_address = simp fitting refl;
  function = simp fitting refl;
  no_global = simp fitting refl;
  another_element = simp constants_fit (simp pointed (simp fitting refl));
  wrong_index = simp fitting refl;
  another_recast = simp fitting refl;
  wrong_recast = simp fitting refl;
  undefined_array = simp fitting refl;
  address = simp fitting refl;
  of_element = simp constants_fit (simp pointed (simp fitting refl));
  nowhere = simp fitting refl;
  recast = simp fitting refl;
}

pub initialisers_are_judged : InitialisersAreJudged
initialisers_are_judged = record {
  too_few_bytes = simp fitting refl;
  too_few = simp fitting refl;
  another_part = simp fitting refl;
  wrong_part = simp fitting refl;
  braces = simp fitting refl;
  null_array = simp fitting refl;
  bytes = simp fitting refl;
  elements = simp fitting refl;
  fields = simp fitting refl;
}

no_power : (align : Option ℕ) → IsAlign (Some (positive 3 6 7)) align → ⊥
no_power None e = absurd (omega (arith, e))
no_power (Some align) e = three e.2.0.0 (sym e.1 ∙ e.2.0.1)
  where
    three : (k : ℕ) → 3 ≡ 2 ^ k → ⊥
    three zero f = absurd (omega (arith, f))
    three (suc k) f = absurd (omega (arith, f, pow-suc 2 k))

negative_align : (align : Option ℕ) → IsAlign (Some (negative 4 6 8)) align → ⊥
negative_align None e = absurd (omega (arith, e))
negative_align (Some align) e = let sign : true ≡ false = e.0 in cc

named_call : (name : Option Name) → IsResultNamed (Some (named 0 z)) Void name → ⊥
named_call None e = let none : Some (named 0 z) ≡ None = e.0 in cc
named_call (Some name) e = e.1 refl

pub parts_are_judged : PartsAreJudged
parts_are_judged = record {
  no_power = no_power;
  negative_align = negative_align;
  no_align = refl;
  unstated = λ e. cc;
  needless_dots = λ e. (let dots : true ≡ false = e.1 in cc);
  named_store = λ w s e. (let none : Some (named 0 z) ≡ None = e.0 in cc);
  named_call = named_call;
}
