-- A constant's text is that of its parts, and the texts of constants that have constants in them.
use Rattle.std.proofs.Common.{◌≡◌, ◌∙◌, ◌++◌, ◌∷◌, [], ◌≤◌, ℕ, Bool, List, codes, length, map, take, refl, sym, ap}
use Rattle.std.proofs.lemmas.List.{take_all}
use Rattle.std.specs.List.{flat_map}
use Rattle.ir_types.specs.declared.ty.Ty.{Ty}
use Rattle.ir_core.specs.declared.operands.Const.{Const, Number, Undef, Null, Global, Element, Cast}
use Rattle.ir_core.proofs.Constants as fold
use Rattle.ir_printer.specs.declared.sink.Sink.{Sink}
use Rattle.ir_printer.specs.Told.{IsTold}
use Rattle.ir_printer.proofs.Told.{told_as, told_then}
use Rattle.ir_printer.specs.ExpressionPrinter.Printed.{constant_parts, constant_text, element_head, further_text, printed_constant, printed_type, typed_text}

pub constants_by_parts : (t : Ty) (c : Const) → printed_constant t c ≡ constant_parts c t
constants_by_parts t (Number n) = sym (ap (λ (f : Ty → List ℕ). f t) (fold.at_number (Ty → List ℕ) constant_text n))
constants_by_parts t Undef = sym (ap (λ (f : Ty → List ℕ). f t) (fold.at_undef (Ty → List ℕ) constant_text))
constants_by_parts t Null = sym (ap (λ (f : Ty → List ℕ). f t) (fold.at_null (Ty → List ℕ) constant_text))
constants_by_parts t (Global x) = sym (ap (λ (f : Ty → List ℕ). f t) (fold.at_global (Ty → List ℕ) constant_text x))
constants_by_parts t c = refl

-- each constant's text, beside its type
abbrev pub texts_of : List (Ty × Const) → List (Ty × (Ty → List ℕ))
texts_of = map (λ c. (c.0, constant_parts c.1))

pub at_element : (t : Ty) (inbounds : Bool) (of : Ty) (cs : List (Ty × Const)) → constant_parts (Element (inbounds, of, cs)) t
    ≡ element_head inbounds of ++ flat_map further_text (texts_of cs) ++ 41 ∷ []
at_element t inbounds of cs = ap (λ (f : Ty → List ℕ). f t) (fold.at_element (Ty → List ℕ) constant_text inbounds of cs)

pub at_cast : (t to : Ty) (cs : List (Ty × Const)) → constant_parts (Cast (to, cs)) t
    ≡ codes "bitcast (" ++ flat_map typed_text (texts_of cs) ++ codes " to " ++ printed_type to ++ 41 ∷ []
at_cast t to cs = ap (λ (f : Ty → List ℕ). f t) (fold.at_cast (Ty → List ℕ) constant_text to cs)

pub element_told : (old mid body new : Sink) (t : Ty) (c : Const) (e : Bool × Ty × List (Ty × Const)) (i : ℕ)
    → c ≡ Element e
    → IsTold old mid (element_head e.0 e.1)
    → IsTold mid body (flat_map further_text (texts_of (take i e.2)))
    → length e.2 ≤ i
    → IsTold body new (41 ∷ [])
    → IsTold old new (constant_parts c t)
element_told old mid body new t c e i is head parts over last =
    let texts = told_as mid body _ _ (ap (λ cs. flat_map further_text (texts_of cs)) (take_all i e.2 over)) parts in
    told_as old new _ _ (sym (at_element t e.0 e.1 e.2) ∙ ap (λ c. constant_parts c t) (sym is))
    (told_then old body new _ _ (told_then old mid body _ _ head texts) last)

pub cast_told : (old mid body to_text typed new : Sink) (t : Ty) (c : Const) (e : Ty × List (Ty × Const)) (i : ℕ)
    → c ≡ Cast e
    → IsTold old mid (codes "bitcast (")
    → IsTold mid body (flat_map typed_text (texts_of (take i e.1)))
    → length e.1 ≤ i
    → IsTold body to_text (codes " to ")
    → IsTold to_text typed (printed_type e.0)
    → IsTold typed new (41 ∷ [])
    → IsTold old new (constant_parts c t)
cast_told old mid body to_text typed new t c e i is head parts over to_is type_is last =
    let texts = told_as mid body _ _ (ap (λ cs. flat_map typed_text (texts_of cs)) (take_all i e.1 over)) parts in
    told_as old new _ _ (sym (at_cast t e.0 e.1) ∙ ap (λ c. constant_parts c t) (sym is))
    (told_then old typed new _ _ (told_then old to_text typed _ _ (told_then old body to_text _ _ (told_then old mid body _ _ head texts) to_is) type_is) last)
