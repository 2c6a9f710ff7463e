-- Printed phis are texts that name them.
use Rattle.std.proofs.Common.{◌≡◌, ℕ, ◌<◌, List, [], ◌∷◌, ◌++◌, map, length, Some, refl, ap, sym, ◌∙◌, arith}
use Rattle.std.specs.Prelude.{codes}
use Rattle.std.specs.List.{AllByRecursion, AllZip, flat_map}
use Rattle.ir_core.specs.declared.functions.Entry.{Entry}
use Rattle.ir_core.specs.declared.functions.Phi.{Phi}
use Rattle.ir_core.specs.declared.modules.Module.{Module}
use Rattle.ir_core.specs.Ranges.{IsNameInRange}
use Rattle.ir_types.specs.declared.names.Name.{Name}
use Rattle.ir_types.specs.declared.ty.Ty.{Ty}
use Rattle.ir_printer.specs.Printed.{entry_text, indented, phi_text, set_text}
use Rattle.ir_printer.specs.ExpressionPrinter.Printed.{listed}
use Rattle.module_grammar.specs.declared.flow.EntryText.{EntryText}
use Rattle.module_grammar.specs.declared.flow.PhiText.{PhiText}
use Rattle.module_grammar.specs.declared.places.Placed.{Placed}
use Rattle.module_grammar.specs.declared.types.TypeText.{TypeText}
use Rattle.module_grammar.specs.declared.words.KeyWord.TheVariants as key
use Rattle.module_grammar.specs.declared.words.Language.TheVariants.{Ir}
use Rattle.module_grammar.specs.Flow as flow
use Rattle.module_grammar.specs.Listed.{further}
use Rattle.module_grammar.specs.Symbols.{Local, Symbol}
use Rattle.module_grammar.specs.Symbols as symbols
use Rattle.module_grammar.specs.Types as types
use Rattle.named_modules.specs.Flow.{IsEntry, IsPhi}
use Rattle.named_modules.specs.Values.{IsValueType, Registers}
use Rattle.printed_modules.proofs.Calm.{calm_entry, calm_further, calm_type}
use Rattle.printed_modules.proofs.Fit.{FitsEntry, FitsPhi, FitsValueType}
use Rattle.printed_modules.proofs.Fitted as fitted
use Rattle.printed_modules.proofs.Laid.{AreCalm, both_calm}
use Rattle.printed_modules.proofs.Lays.{Lays, of_calm}
use Rattle.printed_modules.proofs.Operations.{further_is}
use Rattle.std.proofs.lemmas.List.{append-nil}
use Rattle.printed_tokens.proofs.Marks.{close_bracket, comma, equals_mark, line_end, local, open_bracket, some, space}
use Rattle.printed_tokens.proofs.Marks as marks
use Rattle.printed_tokens.proofs.ModuleTypes.{HasNames}
use Rattle.printed_tokens.proofs.Prints.{IsFixed, Prints, before, behind, both, gap_behind, read_as, wherever}
use Rattle.printed_tokens.proofs.ReadTexts.{Any, Stops}

-- ---- pieces of a line

-- a text on a line of its own
pub on_line : {A : Type 0} {v : A → List Symbol} {M : A → Type 0} {bytes : List ℕ} → Prints Ir Stops v M bytes → Prints Ir Any v M (indented bytes)
on_line p = before Ir (before Ir (space Ir) (space Ir)) (gap_behind Ir p (line_end Ir) (λ rest end. refl))

equals : IsFixed Ir Any (codes " = ") (symbols.equals ∷ [])
equals = before Ir (space Ir) (before Ir (equals_mark Ir) (space Ir))

-- `%x = `
pub set : (n : Name) → IsNameInRange n → Prints Ir Any (λ w. Local w ∷ symbols.equals ∷ []) (λ (w : Placed Name). n ≡ w.what) (set_text n)
set n writable = behind Ir (local Ir n writable) equals (λ rest end. refl)

-- ---- entries

-- an entry of a phi and the further ones
abbrev entries_written : EntryText × List EntryText → List Symbol
entries_written w = flow.entry w.0 ++ flat_map (λ e. symbols.comma ∷ flow.entry e) w.1

-- a register, a type, and entries
abbrev Parts : Type 0
Parts = Placed Name × (TypeText × (EntryText × List EntryText))

abbrev parts_written : Parts → List Symbol
parts_written w = Local w.0 ∷ symbols.equals ∷ symbols.phi ∷ (types.ty w.1.0 ++ entries_written w.1.1)

abbrev phi_of : Parts → PhiText
phi_of w = record { register = Some w.0; node = record { ty = w.1.0; first = w.1.1.0; others = w.1.1.1; attachments = [] } }

phi_written : (w : Parts) → parts_written w ≡ flow.phi_node (phi_of w)
phi_written w =
    ap (λ l. Local w.0 ∷ symbols.equals ∷ symbols.phi ∷ (types.ty w.1.0 ++ (flow.entry w.1.1.0 ++ l)))
    (further_is flow.entry w.1.1.1 ∙ sym (append-nil (further (map flow.entry w.1.1.1))))

entries_calm : (w : EntryText × List EntryText) → AreCalm (entries_written w)
entries_calm w = both_calm (flow.entry w.0) _ (calm_entry w.0) (calm_further flow.entry calm_entry w.1)

module _ (m : Module) (names : HasNames m) (rs : Registers) (labels : List Name) where
  entry : (t : Ty) → FitsValueType m t → (e : Entry) → FitsEntry m rs labels t e → Prints Ir Stops flow.entry (λ (w : EntryText). IsEntry m rs labels t w e) (entry_text t e)
  entry t typed e fits =
      read_as Ir flow.entry (λ (w : EntryText). IsEntry m rs labels t w e) (λ t. record { at = t.0; value = t.1.0; from = t.1.1 }) (λ t named. refl) (λ t named. named.1)
      (both Ir (open_bracket Ir)
      (before Ir (space Ir)
      (both Ir (fitted.value m names rs labels t e.value typed fits.0)
      (before Ir (comma Ir) (behind Ir (fitted.label m names rs labels e.from fits.1) (wherever Ir Stops (before Ir (space Ir) (close_bracket Ir))) (λ rest end. refl))) (λ rest end. refl)))
      (λ rest end. tt))

  entries : (t : Ty) → FitsValueType m t → (es : List Entry) → 0 < length es → AllByRecursion (FitsEntry m rs labels t) es
      → Prints Ir Stops entries_written (λ (w : EntryText × List EntryText). AllZip (IsEntry m rs labels t) (w.0 ∷ w.1) es) (listed (codes " ") (map (entry_text t) es))
  entries t typed [] none all = absurd (omega (arith, none))
  entries t typed (e ∷ es) some_of all =
      before Ir (space Ir) (some Ir (FitsEntry m rs labels t) flow.entry (IsEntry m rs labels t) (entry_text t) (entry t typed) e es all.0 all.1)

  entries_stop : (t : Ty) (es : List Entry) (rest : List ℕ) → Stops rest → Stops (listed (codes " ") (map (entry_text t) es) ++ rest)
  entries_stop t [] rest stop = stop
  entries_stop t (e ∷ es) rest stop = refl

  -- ---- phis

  record NamesParts (p : Phi) (w : Parts) : Type 0 where
    pub register : p.name ≡ w.0.what
    pub ty : IsValueType m w.1.0 p.ty
    pub entries : AllZip (IsEntry m rs labels p.ty) (w.1.1.0 ∷ w.1.1.1) p.entries

  pub phi : (p : Phi) → FitsPhi m rs labels p → Lays Any flow.phi_node (λ stated (w : PhiText). IsPhi m rs labels w p) (indented (phi_text p))
  phi p fits =
      of_calm flow.phi_node (λ stated (w : PhiText). IsPhi m rs labels w p) phi_of (λ t named. phi_written t) (λ stated t named. (named.register, named.ty, named.entries))
      (λ t named. λ is. cc) (λ t named. both_calm (types.ty t.1.0) _ (calm_type t.1.0) (entries_calm t.1.1))
      (read_as Ir parts_written (NamesParts p) (λ t. t) (λ t named. refl) (λ t named. record { register = named.0; ty = named.1.0; entries = named.1.1 })
      (on_line (both Ir (set p.name fits.name)
      (before Ir (marks.key Ir key.Phi tt) (both Ir (fitted.value_type m names p.ty fits.typed) (entries p.ty fits.typed p.entries fits.some fits.entries) (entries_stop p.ty p.entries)))
      (λ rest end. tt))))
