-- The named types of a module.
use Rattle.std.proofs.Common.{List, [], ◌∷◌, ◌++◌, codes, map, Option, None, Some, refl, sym, ap}
use Rattle.std.specs.List.{AllByRecursion}
use Rattle.std.proofs.lemmas.List.Folds.{flat_map-map}
use Rattle.ir_core.specs.declared.modules.Module.{Module}
use Rattle.ir_types.specs.declared.named.NamedTy.{NamedTy}
use Rattle.ir_types.specs.declared.names.Name.{Name}
use Rattle.ir_types.specs.declared.ty.Ty.{Ty}
use Rattle.ir_types.specs.Named.{fields_or_none}
use Rattle.module_grammar.specs.declared.items.ItemText.TheVariants as item
use Rattle.module_grammar.specs.declared.items.TypeBodyText.{TypeBodyText}
use Rattle.module_grammar.specs.declared.items.TypeBodyText.TheVariants as bodies
use Rattle.module_grammar.specs.declared.places.Placed.{Placed}
use Rattle.module_grammar.specs.declared.types.TypeText.{TypeText}
use Rattle.module_grammar.specs.declared.words.KeyWord.TheVariants as key
use Rattle.module_grammar.specs.declared.words.Language.TheVariants.{Ir}
use Rattle.module_grammar.specs.Listed.{behind_comma}
use Rattle.module_grammar.specs.Modules as write
use Rattle.module_grammar.specs.Symbols.{Brace, Local, Symbol, close_brace, equals, open_paren}
use Rattle.module_grammar.specs.Symbols as symbols
use Rattle.module_grammar.specs.Types.{ty, types}
use Rattle.named_modules.specs.Modules.{AreFields, IsNamedType}
use Rattle.named_modules.specs.Values.{IsType}
use Rattle.ir_printer.specs.ExpressionPrinter.Printed.{printed_type, struct_text}
use Rattle.ir_printer.specs.Printed.{body_text, named_type_text}
use Rattle.printed_modules.proofs.Calm.{calm_listed, calm_type}
use Rattle.printed_modules.proofs.CalmParts.{no_paren}
use Rattle.printed_modules.proofs.Fit.{FitsNamedType, FitsType}
use Rattle.printed_modules.proofs.Laid.{AreCalm, IsShut, both_calm}
use Rattle.printed_modules.proofs.Lays.{Lays, of_calm}
use Rattle.printed_tokens.proofs.Marks as marks
use Rattle.printed_tokens.proofs.ModuleTypes.{HasNames, module_type}
use Rattle.printed_tokens.proofs.Prints.{IsFixed, Prints, before, both, gap_behind, read_as, wherever}
use Rattle.printed_tokens.proofs.ReadTexts.{Any, Stops}
use Rattle.printed_tokens.proofs.Types.{in_braces, no_braces}

-- a name, and what it stands for
abbrev pub type_written : Placed Name × TypeBodyText → List Symbol
type_written w = write.item (item.Type w.0 w.1)

-- ` = type `
equals_type : IsFixed Ir Any (codes " = type ") (equals ∷ symbols.type ∷ [])
equals_type = before Ir (marks.space Ir) (before Ir (marks.equals_mark Ir) (before Ir (marks.space Ir) (marks.key Ir key.TypeKey tt)))

-- ---- calm rows

calm_body : (w : TypeBodyText) → AreCalm (write.type_body w)
calm_body bodies.Opaque = refl
calm_body (bodies.Struct at fields) = both_calm (types fields) (close_brace ∷ []) (calm_listed ty calm_type fields) refl

shut_type : (w : Placed Name × TypeBodyText) → IsShut (type_written w)
shut_type w = no_paren (Local w.0) refl

module _ (m : Module) (names : HasNames m) where
  field : (t : Ty) → FitsType m t → Prints Ir Stops ty (λ (w : TypeText). IsType m w t) (printed_type t)
  field t fits = module_type m Ir names t fits.0 fits.1

  fields_in : (ts : List Ty) → AllByRecursion (FitsType m) ts → Prints Ir Any write.type_body (λ (w : TypeBodyText). AreFields m w (Some ts)) (struct_text (map printed_type ts))
  fields_in [] all =
      read_as Ir write.type_body (λ (w : TypeBodyText). AreFields m w (Some [])) (λ at. bodies.Struct at []) (λ at named. refl) (λ at named. tt) (no_braces Ir)
  fields_in (t ∷ ts) all =
      read_as Ir write.type_body (λ (w : TypeBodyText). AreFields m w (Some (t ∷ ts))) (λ w. bodies.Struct w.0 (w.1.0 ∷ w.1.1))
      (λ w named. ap (λ l. Brace w.0 ∷ ((ty w.1.0 ++ l) ++ (close_brace ∷ []))) (sym (flat_map-map behind_comma ty w.1.1))) (λ w named. named)
      (in_braces Ir (marks.some Ir (FitsType m) ty (λ (w : TypeText) (t : Ty). IsType m w t) printed_type field t ts all.0 all.1))

  body : (fs : Option (List Ty)) → AllByRecursion (FitsType m) (fields_or_none fs) → Prints Ir Stops write.type_body (λ (w : TypeBodyText). AreFields m w fs) (body_text fs)
  body None fits =
      read_as Ir write.type_body (λ (w : TypeBodyText). AreFields m w None) (λ t. bodies.Opaque) (λ t named. refl) (λ t named. refl) (marks.key_alone Ir key.Opaque tt)
  body (Some ts) fits = wherever Ir Stops (fields_in ts fits)

  named_type : (t : NamedTy) → FitsNamedType m t → Prints Ir Any type_written (λ (w : Placed Name × TypeBodyText). IsNamedType m w t) (named_type_text t)
  named_type t fits =
      read_as Ir type_written (λ (w : Placed Name × TypeBodyText). IsNamedType m w t) (λ w. w) (λ w named. refl) (λ w named. named)
      (both Ir (marks.local Ir t.name fits.name) (before Ir equals_type (gap_behind Ir (body t.fields fits.fields) (marks.line_end Ir) (λ rest end. refl))) (λ rest end. refl))

  pub type_laid : (t : NamedTy) → FitsNamedType m t → Lays Any type_written (λ stated (w : Placed Name × TypeBodyText). IsNamedType m w t) (named_type_text t)
  type_laid t fits =
      of_calm type_written (λ stated (w : Placed Name × TypeBodyText). IsNamedType m w t) (λ w. w) (λ w named. refl) (λ stated w named. named)
      (λ w named. shut_type w) (λ w named. calm_body w.1) (named_type t fits)
