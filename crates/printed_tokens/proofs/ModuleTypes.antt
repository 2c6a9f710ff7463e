-- A printed type of a module is one of its types as they are written.
use Rattle.std.proofs.Common.{◌≡◌, ◌∙◌, true, refl, ap, sym}
use Rattle.std.specs.List.{AllByRecursion, Contains, list_all}
use Rattle.std.proofs.lemmas.Bool.{and_from}
use Rattle.ir_types.specs.declared.ty.Ty.{Ty}
use Rattle.ir_core.specs.declared.modules.GlobalVar.{GlobalVar}
use Rattle.ir_core.specs.declared.modules.Module.{Module}
use Rattle.ir_core.specs.Ranges.{IsNameInRange, is_written}
use Rattle.ir_core.specs.TypeNames.{names_in_type, type_names}
use Rattle.ir_core.specs.Types.{is_first_class}
use Rattle.ir_core.specs.WellFormed.{IsTypeKnown}
use Rattle.ir_core.specs.NameIndexes.Among.{is_among}
use Rattle.ir_core.proofs.NameIndexes.Among.{is_there}
use Rattle.module_grammar.specs.declared.types.TypeText.{TypeText}
use Rattle.module_grammar.specs.declared.words.Language.{Language}
use Rattle.module_grammar.specs.Types.{ty}
use Rattle.named_modules.specs.Types.{is_counted, is_type, is_value_type, type_of}
use Rattle.named_modules.specs.Values.{IsType, IsValueType}
use Rattle.ir_printer.specs.ExpressionPrinter.Printed.{printed_type}
use Rattle.printed_tokens.proofs.Lists.{all_over, all_to, each_passes}
use Rattle.printed_tokens.proofs.Prints.{Prints, read_as}
use Rattle.printed_tokens.proofs.ReadTexts.{Stops}
use Rattle.printed_tokens.proofs.Types.{AreNamesInRange, NamesTy, type}

-- the names of a module's types and globals can be written
pub record HasNames (m : Module) : Type 0 where
  pub types : AllByRecursion IsNameInRange (type_names m)
  pub globals : AllByRecursion (λ (g : GlobalVar). IsNameInRange g.name) m.globals

module _ (m : Module) where
  pub known_in_range : AllByRecursion IsNameInRange (type_names m) → (t : Ty) → IsTypeKnown m t → AreNamesInRange t
  known_in_range named t known = all_over (Contains (type_names m)) IsNameInRange (names_in_type t) (λ x there. all_to IsNameInRange (type_names m) named x there) known

  pub is_known : (w : TypeText) (t : Ty) → NamesTy w t → IsTypeKnown m t → is_type m w ≡ true
  is_known w t named known =
      and_from (list_all (λ x. is_among x (type_names m)) (names_in_type (type_of w))) (is_counted w)
      (ap (λ u. list_all (λ x. is_among x (type_names m)) (names_in_type u)) named.0
      ∙ each_passes (Contains (type_names m)) (λ x. is_among x (type_names m)) (λ x there. is_there x (type_names m) there) (names_in_type t) known)
      named.1

  pub is_value : (w : TypeText) (t : Ty) → NamesTy w t → IsTypeKnown m t → is_first_class t ≡ true → is_value_type m w ≡ true
  is_value w t named known first = and_from (is_type m w) (is_first_class (type_of w)) (is_known w t named known) (ap is_first_class named.0 ∙ first)

  module _ (language : Language) (names : HasNames m) where
    pub module_type : (t : Ty) → is_written t ≡ true → IsTypeKnown m t → Prints language Stops ty (λ (w : TypeText). IsType m w t) (printed_type t)
    module_type t written known =
        read_as language ty (λ (w : TypeText). IsType m w t) (λ w. w) (λ w named. refl) (λ w named. (sym named.0, is_known w t named known))
        (type language t written (known_in_range names.types t known))

    pub value_type : (t : Ty) → is_written t ≡ true → IsTypeKnown m t → is_first_class t ≡ true → Prints language Stops ty (λ (w : TypeText). IsValueType m w t) (printed_type t)
    value_type t written known first =
        read_as language ty (λ (w : TypeText). IsValueType m w t) (λ w. w) (λ w named. refl) (λ w named. (sym named.0, is_value w t named known first))
        (type language t written (known_in_range names.types t known))
