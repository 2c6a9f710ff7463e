-- Words of private functions. What becomes of facts over an edge.
use Rattle.std.specs.Prelude.{ℕ, Bool, false, ◌&&◌, ◌||◌, ◌≡◌, not, slice_get, List, Option, None, Some, is_some}
use Rattle.std.specs.List.{filter_map, list_any}
use Rattle.std.specs.Option.{option_to_list}
use Rattle.ir_types.specs.declared.names.Name.{Name}
use Rattle.ir_core.specs.declared.operands.Atom.{Atom}
use Rattle.ir_core.specs.declared.operands.Atom.TheVariants as atom
use Rattle.ir_core.specs.declared.functions.Entry.{Entry}
use Rattle.ir_core.specs.declared.functions.Phi.{Phi}
use Rattle.ir_core.specs.declared.expressions.Reg.{Reg}
use Rattle.ir_core.specs.declared.expressions.Reg.TheVariants.{Now}
use Rattle.ir_core.specs.declared.name_index.places.PlaceIndex.{PlaceIndex}
use Rattle.ir_core.specs.NameIndexes.Places.{place_in}
use Rattle.ir_machine.specs.Machine.{entry_from}
use Rattle.erhl_assert.specs.declared.facts.Fact.{Fact}
use Rattle.erhl_assert.specs.declared.facts.Fact.TheVariants.{Unique}
use Rattle.erhl_assert.specs.declared.facts.Assertion.{Assertion}
use Rattle.erhl_assert.specs.declared.facts.Side.TheVariants.{Src, Tgt}
use Rattle.erhl_assert.specs.Facts.{fact_has, without}
use Rattle.erhl_assert.specs.Edges.{Edge, is_old, is_alike, is_of_phi, as_old, phi_facts}
use Rattle.erhl_assert.specs.Kills.{is_unique_of}
use Rattle.erhl_assert.specs.Course.{Course, and_then}
use Rattle.erhl_assert.specs.Growth.{adds_all}
use Rattle.erhl_assert.specs.Sides.{has_reg}
use Rattle.fact_sets.specs.ErhlSides.Beside.{adds_all_beside}

-- the fact is that what the atom holds is unique
abbrev pub is_of_atom : Fact → Atom Name → Bool
is_of_atom f (atom.Constant c) = false
is_of_atom f (atom.Register x) = is_unique_of (Now x) f

abbrev pub is_of_entry : Fact → Option Entry → Bool
is_of_entry f None = false
is_of_entry f (Some e) = is_of_atom f e.value

-- the fact is that what a phi is given is unique
abbrev pub is_shared : Name → List Phi → Fact → Bool
is_shared from ps f = list_any (λ (p : Phi). is_of_entry f (entry_from from p.entries)) ps

-- the register is one of those that are kept
abbrev pub has_given : PlaceIndex → Name → Bool
has_given given x = is_some (place_in given x)

-- those registers are kept that the phis are given, and no others
unfoldable pub AreGiven : PlaceIndex → Name → List Phi → Type 0
AreGiven given from ps = (x : Name) → has_given given x ≡ is_shared from ps (Unique (Now x))

-- it names a register of a phi, or is that what a phi is given is unique
abbrev pub is_taken : Name → List Phi → Fact → Bool
is_taken from ps f = fact_has (is_of_phi ps) f || is_shared from ps f

-- the fact names no old register, and the phis take it away
abbrev pub goes : Name → List Phi → Fact → Bool
goes from ps f = not (fact_has is_old f) && is_taken from ps f

-- neither
abbrev pub stays : Name → List Phi → Fact → Bool
stays from ps f = not (fact_has is_old f) && not (is_taken from ps f)

-- the fact of that number, if there is one
abbrev pub at_place : ℕ → List Fact → List Fact
at_place k fs = option_to_list (slice_get fs k)

-- what is added of a side's facts: those of expressions that name no old register, as they were
abbrev pub copies : List Fact → List Fact
copies fs = filter_map as_old (without is_old fs)

-- Over an edge, from what stays: copies are added while so many facts that go are still there, and then the facts of phis.
abbrev pub over_staying : ℕ → Edge → Assertion → Assertion → Course Assertion
over_staying others e known staying =
    and_then (adds_all_beside others Src (copies known.src) staying) (λ half.
    and_then (adds_all_beside others Tgt (copies known.tgt) half) (λ copied.
    and_then (adds_all Src (phi_facts e.from e.source) copied) (adds_all Tgt (phi_facts e.from e.target))))

-- the register isn't one of these that both sides set alike
abbrev pub stays_apart : Assertion → Edge → List Reg → Reg → Bool
stays_apart known e rs r = not (is_alike known e r && has_reg r rs)
