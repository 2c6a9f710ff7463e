-- The examples are computed.
use Rattle.std.proofs.Common.{◌≡◌, ◌∙◌, ℕ, Bool, false, List, [], ◌∷◌, map, ap, sym, refl}
use Rattle.ir_lexer.specs.declared.token.Number.{Number}
use Rattle.ir_types.specs.declared.ty.Ty as ty
use Rattle.ir_types.specs.declared.ty.Ty.{Ty}
use Rattle.ir_types.specs.declared.ty.Ty.TheViews.{outs-Array}
use Rattle.ir_types.proofs.Monotone as layout
use Rattle.module_grammar.specs.declared.constants.ConstText.{ConstText, fold-ConstText}
use Rattle.module_grammar.specs.declared.constants.ConstText as const
use Rattle.module_grammar.specs.declared.constants.ConstText.TheOpen as level
use Rattle.module_grammar.specs.declared.constants.InitText.{InitText, fold-InitText}
use Rattle.module_grammar.specs.declared.constants.InitText as init
use Rattle.module_grammar.specs.declared.constants.IntText.{IntText}
use Rattle.module_grammar.specs.declared.items.ItemText.{ItemText}
use Rattle.ir_core.specs.declared.modules.GlobalVar.{GlobalVar}
use Rattle.ir_core.specs.Typing.{Signature}
use Rattle.ir_types.specs.declared.names.Name.{Name}
use Rattle.named_modules.specs.Built.{module_of}
use Rattle.module_texts.specs.NamedModuleLaws.Words.{global, i8, integer, no_params, number, pointer, x}
use Rattle.module_grammar.specs.declared.places.Placed.{Placed}
use Rattle.module_grammar.specs.declared.types.TypeText as text
use Rattle.module_grammar.specs.declared.types.TypeText.{TypeText, fold-TypeText, fold-roll-TypeText}
use Rattle.module_grammar.specs.declared.types.TypeText.TheOpen as level_of_type
use Rattle.module_grammar.specs.declared.types.TypeText.TheViews.{rolls-Array}
use Rattle.module_spelling.specs.Blocks.{Asked, Wanted, asked_at_level, init_at_level, large_places, wanted_by_const}
use Rattle.module_texts.proofs.NamedModuleLaws.Folds.{array_of_int, trees}
use Rattle.named_modules.proofs.ConstKinds as kind
use Rattle.named_modules.specs.Faults.{Heads, heads_of}
use Rattle.named_modules.specs.Types.{count_built, int_of, type_at_level}
use Rattle.module_texts.specs.JudgedTexts.Blocks.{BlocksAreTold, none_of_many}

module _ (h : Heads) where
  abbrev asked : ConstText → Asked
  asked = fold-ConstText Asked (asked_at_level h)

  int_wants : (i : IntText) → (fold-ConstText Asked (asked_at_level h) (const.Int i)).wanted ≡ []
  int_wants i = ap (λ (a : Asked). a.wanted) (kind.at_int Asked (asked_at_level h) i)

  int_number : (i : IntText) (t : Ty) → (fold-ConstText Asked (asked_at_level h) (const.Int i)).number t ≡ int_of t i
  int_number i t = ap (λ (a : Asked). a.number t) (kind.at_int Asked (asked_at_level h) i)

  null_wants : (at : ℕ) → (fold-ConstText Asked (asked_at_level h) (const.Null at)).wanted ≡ []
  null_wants at = ap (λ (a : Asked). a.wanted) (kind.at_null Asked (asked_at_level h) at)

  undef_wants : (fold-ConstText Asked (asked_at_level h) const.Undef).wanted ≡ []
  undef_wants = ap (λ (a : Asked). a.wanted) (kind.at_undef Asked (asked_at_level h))

  element_wants : (at : ℕ) (inbounds : Bool) (of base_ty : TypeText) (base : ConstText) (indices : List (TypeText × ConstText))
      → (fold-ConstText Asked (asked_at_level h) (const.Element at inbounds (of, base_ty, base, indices))).wanted
      ≡ (asked_at_level h (level.Element at inbounds (of, base_ty, asked base, map (λ c. (c.0, asked c.1)) indices))).wanted
  element_wants at inbounds of base_ty base indices = ap (λ (a : Asked). a.wanted) (kind.at_element Asked (asked_at_level h) at inbounds of base_ty base indices)

  start_wants : (c : ConstText) → fold-InitText (List Wanted) (init_at_level h) (init.Const c) ≡ wanted_by_const h c
  start_wants = kind.at_const (List Wanted) (init_at_level h)

ruleset wants = (int_wants, int_number, null_wants, undef_wants, element_wants, start_wants)

-- an array of arrays
arrays_are : (at inner : ℕ) (count own : Placed Number) (width : Placed ℕ)
    → fold-TypeText Ty type_at_level (text.Array at (count, text.Array inner (own, text.Int width))) ≡ ty.Array (count_built count.what) (ty.Array (count_built own.what) (ty.Int width.what))
arrays_are at inner count own width =
    ap (fold-TypeText Ty type_at_level) (sym (rolls-Array at (count, text.Array inner (own, text.Int width))))
    ∙ fold-roll-TypeText Ty type_at_level (level_of_type.Array at (count, text.Array inner (own, text.Int width)))
    ∙ ap (ty.Array (count_built count.what)) (array_of_int inner own width)

-- ---- inside a constant, beside whatever globals and functions

abbrev address : ConstText
address = const.Element 16 false (none_of_many 31, pointer 79 (none_of_many 56), const.Null 81, (integer 64 87, number 0 91 92) ∷ (integer 64 94, number 0 98 99) ∷ [])

abbrev entering : ItemText
entering = global 0 x (pointer 14 (i8 12)) (init.Const address)

module _ (globals : List GlobalVar) (signatures : List (Name × Signature)) where
  abbrev heads : Heads
  heads = record { types = []; globals = globals; signatures = signatures }

  abbrev at_31 : Ty → Wanted
  at_31 t = record { place = 31; ty = t; count = 1 }

  address_wants : (fold-ConstText Asked (asked_at_level heads) address).wanted ≡ at_31 (ty.Array 0 (ty.Array 2147483649 (ty.Int 8))) ∷ at_31 (ty.Array 2147483649 (ty.Int 8)) ∷ []
  address_wants =
      element_wants heads 16 false (none_of_many 31) (pointer 79 (none_of_many 56)) (const.Null 81) ((integer 64 87, number 0 91 92) ∷ (integer 64 94, number 0 98 99) ∷ [])
      ∙ simp (wants, arrays_are, outs-Array, trees) refl

  in_constant : large_places heads (record { items = entering ∷ [] }) ≡ 31 ∷ []
  in_constant = simp (start_wants, address_wants, trees, layout.at_int, layout.at_array, layout.at_ptr) refl

pub blocks_are_told : BlocksAreTold
blocks_are_told = record {
  just_allowed = simp (wants, trees, layout.at_int, layout.at_array) refl;
  one_more = simp (wants, trees, layout.at_int, layout.at_array) refl;
  elsewhere = simp (trees, layout.at_int, layout.at_array) refl;
  behind_pointer = simp (wants, trees, layout.at_ptr) refl;
  unknown = simp (wants, trees) refl;
  allocated = simp (trees, layout.at_int) refl;
  allocated_by_no_number = simp trees refl;
  stepped_over = simp (wants, arrays_are, trees, layout.at_int, layout.at_array) refl;
  entered = simp (wants, arrays_are, trees, layout.at_int, layout.at_array) refl;
  entered_in_constant =
      let h = heads_of (module_of no_params (record { items = entering ∷ [] })) in
      in_constant h.globals h.signatures;
}
