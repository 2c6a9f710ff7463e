-- The initialiser that is built, at each kind of initialiser.
use Rattle.std.proofs.Common.{◌≡◌, ◌∙◌, ℕ, List, [], ◌∷◌, map, ap, refl}
use Rattle.ir_core.specs.declared.modules.Init as init
use Rattle.ir_core.specs.declared.modules.Init.{Init}
use Rattle.ir_types.specs.declared.ty.Ty.{Ty}
use Rattle.module_grammar.specs.declared.constants.ConstText.{ConstText}
use Rattle.module_grammar.specs.declared.constants.InitText.{InitText, Const, Zero, Bytes, Array, Struct}
use Rattle.module_grammar.specs.declared.places.Placed.{Placed}
use Rattle.module_grammar.specs.declared.types.TypeText.{TypeText}
use Rattle.named_modules.specs.Constants.{built_init_part, const_of, init_at_level, init_of}
use Rattle.named_modules.proofs.ConstKinds as kind
use Rattle.named_modules.specs.Parts.{init_part_of, init_parts_of}

parts : (ps : List (TypeText × InitText)) → map built_init_part (map (λ c. (c.0, init_of c.1)) ps) ≡ init_parts_of ps
parts [] = refl
parts (p ∷ ps) = ap (λ qs. init_part_of p ∷ qs) (parts ps)

module _ (t : Ty) where
  pub of_const : (c : ConstText) → init_of (Const c) t ≡ init.Const (const_of c t)
  of_const c = ap (λ (f : Ty → Init). f t) (kind.at_const (Ty → Init) init_at_level c)

  pub of_zero : init_of Zero t ≡ init.Zero
  of_zero = ap (λ (f : Ty → Init). f t) (kind.at_zero (Ty → Init) init_at_level)

  pub of_bytes : (bytes : Placed (List ℕ)) → init_of (Bytes bytes) t ≡ init.Bytes bytes.what
  of_bytes bytes = ap (λ (f : Ty → Init). f t) (kind.at_bytes (Ty → Init) init_at_level bytes)

  pub of_array : (at : ℕ) (ps : List (TypeText × InitText)) → init_of (Array at ps) t ≡ init.Array (init_parts_of ps)
  of_array at ps = ap (λ (f : Ty → Init). f t) (kind.at_array (Ty → Init) init_at_level at ps) ∙ ap init.Array (parts ps)

  pub of_struct : (at : ℕ) (ps : List (TypeText × InitText)) → init_of (Struct at ps) t ≡ init.Struct (init_parts_of ps)
  of_struct at ps = ap (λ (f : Ty → Init). f t) (kind.at_struct (Ty → Init) init_at_level at ps) ∙ ap init.Struct (parts ps)
