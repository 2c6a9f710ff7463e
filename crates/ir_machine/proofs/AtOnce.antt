-- Runs of one step, and lines of constants.
use Rattle.std.proofs.Common.{◌≡◌, ◌⊎◌, inl, inr, ℕ, suc, List, [], ◌∷◌, ◌++◌, Option, None, Some, MatchOption, refl, sym, ap, ◌∙◌, subst}
use Rattle.std.proofs.lemmas.List.{append-nil}
use Rattle.ir_types.specs.declared.names.Name.{Name}
use Rattle.ir_core.specs.declared.operands.Atom.TheVariants.{Register}
use Rattle.ir_types.specs.declared.ty.Ty.{Ty, Ptr}
use Rattle.ir_types.specs.declared.ty.Ty.TheViews.{outs-Ptr, outs-Struct, outs-Void}
use Rattle.ir_types.specs.declared.ty.Ty.TheVariants.{Void}
use Rattle.ir_types.specs.Same.{same_ty}
use Rattle.ir_types.proofs.Monotone as layout
use Rattle.ir_types.proofs.SameLaws.{same_ty_refl}
use Rattle.ir_typing.proofs.ShapeKinds.Pointers.{same_pointers}
use Rattle.ir_values.proofs.ConstantWalks.{of_global, of_null, of_number, of_undef, worth_global, worth_null, worth_number, worth_undef}
use Rattle.ir_core.specs.declared.functions.Block.{Block}
use Rattle.ir_core.specs.declared.modules.Module.{Module}
use Rattle.ir_core.specs.declared.functions.Term.TheVariants.{RetVoid}
use Rattle.ir_types.specs.NameLaws.{same_name_refl}
use Rattle.ir_machine.specs.declared.items.Item.{Item}
use Rattle.ir_machine.specs.declared.items.Item.TheVariants.{Turn, Returned, Wrong}
use Rattle.ir_machine.specs.State.{no_world, State, Over, Running}
use Rattle.ir_machine.specs.Machine.{Asks, Does, Follows, Made, asks, at_block, ShowsFrom}
use Rattle.ir_machine.specs.Starting.{given, start}
use Rattle.ir_machine.specs.Examples.{dividing, dividing_line, returning_nothing}
use Rattle.ir_machine.specs.Laws.{AddressesGiveThese, AreShownAtOnce, LinesGiveThese, TrapsAreWrong, VoidReturnsAreShown}
use Rattle.ir_machine.specs.Registers.{no_registers}
use Rattle.ir_machine.proofs.Refining.{alone, entering}
use Rattle.ir_machine.proofs.Runs.{over_shows, shows_nothing}
use Rattle.ir_core.specs.Modules.{plain_function}

-- a step that asks for nothing, and after which the run is over
abbrev pub EndsAtOnce : Module → State → List Item → Type 0
EndsAtOnce m s items = asks m s ≡ Does items Over

shown : (m : Module) (s : State) (items : List Item) → EndsAtOnce m s items → (n : ℕ) (seen : List Item) → ShowsFrom m (suc n) s seen → (seen ≡ []) ⊎ (seen ≡ items)
shown m s items ends n seen (inl e) = inl e
shown m s items ends n seen (inr h) =
    let made : h.0 ≡ record { told = []; items = items; after = Over } = subst (λ (tree : Asks). Follows tree h.0) ends h.2 in
    let over : ShowsFrom m n Over h.1 = subst (λ (o : Made). ShowsFrom m n o.after h.1) made h.4 in
    let none : h.1 ≡ [] = over_shows m n h.1 over in
    inr (h.3 ∙ ap (λ (l : List Item). h.0.items ++ l) none ∙ append-nil h.0.items ∙ ap (λ (o : Made). o.items) made)

shows : (m : Module) (s : State) (items : List Item) → EndsAtOnce m s items → (n : ℕ) (seen : List Item) → (seen ≡ []) ⊎ (seen ≡ items) → ShowsFrom m (suc n) s seen
shows m s items ends n seen (inl e) = inl e
shows m s items ends n seen (inr e) =
    inr (
      record { told = []; items = items; after = Over },
      [],
      subst (λ (tree : Asks). Follows tree (record { told = []; items = items; after = Over })) (sym ends) refl,
      e ∙ sym (append-nil items),
      shows_nothing m n Over,
    )

pub at_once : (m : Module) (f : Name) (s : State) (items : List Item) → start m f (given []) ≡ Some s → EndsAtOnce m s items → AreShownAtOnce m f items
at_once m f s items starts ends n seen = (
  λ h. shown m s items ends n seen (subst (λ (o : Option State). MatchOption o ⊥ (λ t. ShowsFrom m (suc n) t seen)) starts h),
  λ h. subst (λ (o : Option State). MatchOption o ⊥ (λ t. ShowsFrom m (suc n) t seen)) (sym starts) (shows m s items ends n seen h),
)

pub traps_are_wrong : TrapsAreWrong
traps_are_wrong f b y = at_once (dividing f b y) f (entering (alone f [] b (dividing_line y ∷ []) (Register y)) b (dividing_line y ∷ []) (Register y) no_registers no_world) (Wrong ∷ []) (rw (same_name_refl f) refl) (simp (of_number, worth_number) refl)

abbrev empty_block : Name → Block
empty_block b = record { name = b; phis = []; body = []; term = RetVoid }

abbrev nothing_left : Name → Name → State
nothing_left f b = Running (at_block (plain_function Void f [] (empty_block b ∷ [])) (empty_block b) no_registers []) [] no_world

pub void_returns_are_shown : VoidReturnsAreShown
void_returns_are_shown f b = at_once (returning_nothing f b) f (nothing_left f b) (Turn ∷ Returned None ∷ []) (rw (same_name_refl f) refl) refl

pub lines_give_these : LinesGiveThese
lines_give_these scope reading memory = record {
  plain = simp (of_number, worth_number) refl;
  plain_i65 = refl;
  add = simp (of_number, worth_number) refl;
  add_no_i8 = simp (of_number, worth_number) refl;
  icmp = simp (of_number, worth_number) refl;
  icmp_void = simp (outs-Void) refl;
  sext = simp (of_number, worth_number) refl;
  zext_same = refl;
  trunc_wider = refl;
  bitcast = simp (of_number, worth_number) refl;
  select = simp (of_number, worth_number) refl;
  select_by_i8 = refl;
  select_of_two = refl;
}

pub pointers : (a b : Ty) → same_ty (Ptr a) (Ptr b) ≡ same_ty a b
pointers a b = sym (same_pointers a b)

pub addresses_give_these : AddressesGiveThese
addresses_give_these reading = record {
  field = simp (pointers, same_ty_refl, outs-Ptr, outs-Struct, of_global, of_number, worth_global, worth_number, layout.at_int, layout.at_struct) refl;
  to_the_end = simp (pointers, same_ty_refl, outs-Ptr, of_global, of_number, worth_global, worth_number, layout.at_int, layout.at_struct) refl;
  past_the_end = simp (pointers, same_ty_refl, outs-Ptr, of_global, of_number, worth_global, worth_number, layout.at_int, layout.at_struct) refl;
  past_the_end_without = simp (pointers, same_ty_refl, outs-Ptr, of_global, of_number, worth_global, worth_number, layout.at_int, layout.at_struct) refl;
  back = simp (pointers, same_ty_refl, outs-Ptr, of_global, of_number, worth_global, worth_number, layout.at_int, layout.at_struct) refl;
  from_null = simp (pointers, same_ty_refl, outs-Ptr, of_null, of_number, worth_null, worth_number, layout.at_int, layout.at_struct) refl;
  from_null_of_other = simp (pointers) refl;
  from_undef = simp (pointers, same_ty_refl, outs-Ptr, of_undef, of_number, worth_undef, worth_number, layout.at_int, layout.at_struct) refl;
  from_integer = refl;
  no_field = simp (pointers, same_ty_refl, outs-Struct) refl;
  field_by_i64 = simp (pointers, same_ty_refl, outs-Struct) refl;
  to_other = simp (pointers, same_ty_refl, outs-Struct) refl;
}
