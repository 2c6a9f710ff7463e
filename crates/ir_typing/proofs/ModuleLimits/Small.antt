-- Whether what each kind of constant and initialiser wants makes blocks.
use Rattle.std.proofs.Common.{◌≡◌, ◌∙◌, ◌&&◌, ◌++◌, ℕ, Bool, true, List, [], ◌∷◌, map, Option, refl, sym, ap}
use Rattle.std.proofs.lemmas.List.Folds.{list_all-append}
use Rattle.std.specs.List.{flat_map, list_all}
use Rattle.ir_types.specs.declared.named.NamedTy.{NamedTy}
use Rattle.ir_types.specs.declared.names.Name.{Name}
use Rattle.ir_types.specs.declared.ty.Ty.{Ty}
use Rattle.ir_core.specs.declared.functions.Block.{Block}
use Rattle.ir_core.specs.declared.functions.Entry.{Entry}
use Rattle.ir_core.specs.declared.functions.Phi.{Phi}
use Rattle.ir_core.specs.declared.modules.Init.{Init, Zero, Bytes, fold-Init}
use Rattle.ir_core.specs.declared.modules.Init as init
use Rattle.ir_core.specs.declared.operands.Const.{Const, Number, Undef, Null, Global, Element, Cast, fold-Const}
use Rattle.ir_core.specs.declared.operands.Operand.{Operand}
use Rattle.ir_core.specs.Functions.{operands_at_end}
use Rattle.ir_core.specs.Sizes.{Blocks, Wanted, indices_behind, one_of_each, stepped, wanted_at_level, wanted_by_atom, wanted_by_constant, wanted_by_init_at, wanted_by_line, wanted_by_operands, wanted_by_parts, wanted_in_block}
use Rattle.ir_core.specs.Typing.{Index}
use Rattle.ir_core.proofs.Constants as constants
use Rattle.ir_core.proofs.Inits as inits
use Rattle.ir_typing.specs.OperandTests.Addresses.{index_told, number_of}
use Rattle.ir_typing.specs.OperandTests.Numbers.{IsNumber}
use Rattle.ir_typing.specs.ModuleLimits.Small.{are_small, constant_small, constants_small, init_small, inits_small, is_small, stepped_small, told_behind, wanted_by_phi}

abbrev index_in : Ty × Wanted → Index
index_in p = record { ty = p.0; number = p.1.number }

abbrev entry_of : Ty → Entry → Operand Name
entry_of t e = record { ty = t; atom = e.value }

module _ (types : List NamedTy) where
  pub both_small : (bs cs : Blocks) → are_small types (bs ++ cs) ≡ (are_small types bs && are_small types cs)
  both_small bs cs = list_all-append (is_small types) bs cs

  flat_small : {A : Type 0} (wanted : A → Blocks) (xs : List A) → are_small types (flat_map wanted xs) ≡ list_all (λ x. are_small types (wanted x)) xs
  flat_small wanted [] = refl
  flat_small wanted (x ∷ xs) = both_small (wanted x) (flat_map wanted xs) ∙ ap (λ b. are_small types (wanted x) && b) (flat_small wanted xs)

  -- ---- constants

  abbrev wanted : Const → Wanted
  wanted = fold-Const Wanted (wanted_at_level types)

  pub number_small : (n : ℕ) → constant_small types (Number n) ≡ true
  number_small n = ap (λ (w : Wanted). are_small types w.blocks) (constants.at_number Wanted (wanted_at_level types) n)

  pub undef_small : constant_small types Undef ≡ true
  undef_small = ap (λ (w : Wanted). are_small types w.blocks) (constants.at_undef Wanted (wanted_at_level types))

  pub null_small : constant_small types Null ≡ true
  null_small = ap (λ (w : Wanted). are_small types w.blocks) (constants.at_null Wanted (wanted_at_level types))

  pub global_small : (x : Name) → constant_small types (Global x) ≡ true
  global_small x = ap (λ (w : Wanted). are_small types w.blocks) (constants.at_global Wanted (wanted_at_level types) x)

  -- the constants behind their types, with what is wanted in each
  abbrev parts_wanted : List (Ty × Const) → List (Ty × Wanted)
  parts_wanted = constants.folded_parts Wanted (wanted_at_level types)

  number_is : (c : Const) → (wanted c).number ≡ number_of c
  number_is = constants.by_parts (λ c. (wanted c).number ≡ number_of c)
      (λ n. ap (λ (w : Wanted). w.number) (constants.at_number Wanted (wanted_at_level types) n))
      (ap (λ (w : Wanted). w.number) (constants.at_undef Wanted (wanted_at_level types)))
      (ap (λ (w : Wanted). w.number) (constants.at_null Wanted (wanted_at_level types)))
      (λ x. ap (λ (w : Wanted). w.number) (constants.at_global Wanted (wanted_at_level types) x))
      (λ inbounds of cs all. ap (λ (w : Wanted). w.number) (constants.at_element Wanted (wanted_at_level types) inbounds of cs))
      (λ to cs all. ap (λ (w : Wanted). w.number) (constants.at_cast Wanted (wanted_at_level types) to cs))

  index_is : (p : Ty × Const) → index_in (p.0, wanted p.1) ≡ index_told p
  index_is p = ap (λ (n : Option ℕ). record { ty = p.0; number = n }) (number_is p.1)

  indices_are : (ps : List (Ty × Const)) → map index_in (parts_wanted ps) ≡ map index_told ps
  indices_are [] = refl
  indices_are (p ∷ ps) = λ i. index_is p i ∷ indices_are ps i

  behind_are : (ps : List (Ty × Const)) → indices_behind (parts_wanted ps) ≡ told_behind ps
  behind_are [] = refl
  behind_are (base ∷ ps) = indices_are ps

  parts_small : (ps : List (Ty × Const)) → are_small types (wanted_by_parts (parts_wanted ps)) ≡ constants_small types ps
  parts_small [] = refl
  parts_small (p ∷ ps) =
      both_small (wanted_by_constant types p.1) (wanted_by_parts (parts_wanted ps)) ∙ ap (λ b. constant_small types p.1 && b) (parts_small ps)

  pub element_small : (e : Bool × Ty × List (Ty × Const)) → constant_small types (Element e) ≡ (stepped_small types e.1 (told_behind e.2) && constants_small types e.2)
  element_small e =
      ap (λ (w : Wanted). are_small types w.blocks) (constants.at_element Wanted (wanted_at_level types) e.0 e.1 e.2)
      ∙ both_small (one_of_each (stepped types e.1 (indices_behind (parts_wanted e.2)))) (wanted_by_parts (parts_wanted e.2))
      ∙ ap (λ (is : List Index). stepped_small types e.1 is && are_small types (wanted_by_parts (parts_wanted e.2))) (behind_are e.2)
      ∙ ap (λ b. stepped_small types e.1 (told_behind e.2) && b) (parts_small e.2)

  -- as it is found of what is lent
  pub element_found : (e f : Bool × Ty × List (Ty × Const)) (ps qs : List (Ty × Const)) (stepped inside : Bool) → f ≡ e → ps ≡ f.2 → stepped ≡ stepped_small types f.1 (told_behind ps)
      → qs ≡ f.2 → inside ≡ constants_small types qs → (stepped && inside) ≡ constant_small types (Element e)
  element_found e f ps qs stepped inside lent first step second parts =
      ap (λ b. b && inside) (step ∙ ap (λ (rs : List (Ty × Const)). stepped_small types f.1 (told_behind rs)) first)
      ∙ ap (λ b. stepped_small types f.1 (told_behind f.2) && b) (parts ∙ ap (constants_small types) second)
      ∙ sym (element_small f)
      ∙ ap (λ (g : Bool × Ty × List (Ty × Const)). constant_small types (Element g)) lent

  pub cast_small : (c : Ty × List (Ty × Const)) → constant_small types (Cast c) ≡ constants_small types c.1
  cast_small c = ap (λ (w : Wanted). are_small types w.blocks) (constants.at_cast Wanted (wanted_at_level types) c.0 c.1) ∙ parts_small c.1

  -- ---- initialisers

  pub held_small : (c : Const) → init_small types (init.Const c) ≡ constant_small types c
  held_small c = ap (are_small types) (inits.at_const Blocks (wanted_by_init_at types) c)

  pub plain_small : (p : Ty × Init) → IsNumber p → init_small types p.1 ≡ true
  plain_small p is = ap (λ (q : Ty × Init). init_small types q.1) is.2 ∙ held_small (Number is.1) ∙ number_small is.1

  pub zero_small : init_small types Zero ≡ true
  zero_small = ap (are_small types) (inits.at_zero Blocks (wanted_by_init_at types))

  pub bytes_small : (bytes : List ℕ) → init_small types (Bytes bytes) ≡ true
  bytes_small bytes = ap (are_small types) (inits.at_bytes Blocks (wanted_by_init_at types) bytes)

  in_parts : (ps : List (Ty × Init))
      → are_small types (flat_map (λ (p : Ty × Blocks). p.1) (inits.folded_parts Blocks (wanted_by_init_at types) ps)) ≡ inits_small types ps
  in_parts [] = refl
  in_parts (p ∷ ps) =
      both_small (fold-Init Blocks (wanted_by_init_at types) p.1) (flat_map (λ (p : Ty × Blocks). p.1) (inits.folded_parts Blocks (wanted_by_init_at types) ps))
      ∙ ap (λ b. init_small types p.1 && b) (in_parts ps)

  pub array_small : (ps : List (Ty × Init)) → init_small types (init.Array ps) ≡ inits_small types ps
  array_small ps = ap (are_small types) (inits.at_array Blocks (wanted_by_init_at types) ps) ∙ in_parts ps

  pub struct_small : (ps : List (Ty × Init)) → init_small types (init.Struct ps) ≡ inits_small types ps
  struct_small ps = ap (are_small types) (inits.at_struct Blocks (wanted_by_init_at types) ps) ∙ in_parts ps

  -- ---- blocks

  phis_entries : (t : Ty) (es : List Entry)
      → wanted_by_operands types (map (λ (e : Entry). entry_of t e) es) ≡ flat_map (λ (e : Entry). wanted_by_atom types e.value) es
  phis_entries t [] = refl
  phis_entries t (e ∷ es) = ap (λ bs. wanted_by_atom types e.value ++ bs) (phis_entries t es)

  pub phi_small : (p : Phi) → are_small types (wanted_by_phi types p) ≡ are_small types (flat_map (λ (e : Entry). wanted_by_atom types e.value) p.entries)
  phi_small p = ap (are_small types) (phis_entries p.ty p.entries)

  pub block_small : (b : Block)
      → are_small types (wanted_in_block types b)
      ≡ (are_small types (flat_map (wanted_by_phi types) b.phis)
      && (are_small types (flat_map (wanted_by_line types) b.body) && are_small types (wanted_by_operands types (operands_at_end b.term))))
  block_small b =
      both_small (flat_map (wanted_by_phi types) b.phis) (flat_map (wanted_by_line types) b.body ++ wanted_by_operands types (operands_at_end b.term))
      ∙ ap (λ t. are_small types (flat_map (wanted_by_phi types) b.phis) && t) (
      both_small (flat_map (wanted_by_line types) b.body) (wanted_by_operands types (operands_at_end b.term)))
