-- From acceptance of two modules to refinement.
use Rattle.std.proofs.Common.{◌≡◌, ℕ, true, false, ◌&&◌, List, [], ◌∷◌, Option, None, Some, MatchOption, map, option_and_then, inl, inr, refl, sym, subst, subst₂, ⊎_elim}
use Rattle.std.specs.List.{AllByRecursion}
use Rattle.std.proofs.lemmas.Bool.{cond-true, cond-false, cases_Bool}
use Rattle.ir_types.specs.declared.names.Name.{Name}
use Rattle.ir_core.specs.declared.functions.Function.{Function}
use Rattle.ir_core.specs.declared.modules.Module.{Module}
use Rattle.ir_values.specs.Constants.{Scope}
use Rattle.ir_types.specs.Same.{same_list, same_name, same_ty}
use Rattle.ir_types.specs.NameLaws.{left_true, same_name_true}
use Rattle.ir_machine.specs.declared.items.Item.{Item}
use Rattle.ir_machine.specs.declared.inputs.Input.{Input}
use Rattle.ir_machine.specs.State.{scope_of, State}
use Rattle.ir_machine.specs.Machine.{Follows, asks, function_named, ShowsFrom}
use Rattle.ir_machine.specs.Starting.{started, start}
use Rattle.ir_machine.specs.Refinement.{MayShowFrom}
use Rattle.erhl_assert.specs.declared.hints.Hint.{Hint}
use Rattle.erhl_assert.specs.Steps.{Rules, AreSound, beside}
use Rattle.erhl_assert.specs.Acceptance.{Accepts, same_signature, AreAccepted}
use Rattle.erhl_soundness.specs.Laws.{ArePhisApart, AcceptedModulesRefine}
use Rattle.erhl_soundness.proofs.Simulation.{Moves, simulates}
use Rattle.erhl_soundness.proofs.Relation.{AreStatesRelated, AreStartsRelated, own_lines}
use Rattle.erhl_soundness.proofs.Moves.{blocks_move}
use Rattle.erhl_soundness.proofs.Terms.{ends_move}
use Rattle.erhl_soundness.proofs.Starts.{accepted_start}

signature_name : (f g : Function) → same_signature f g ≡ true → f.name ≡ g.name
signature_name f g h =
    let name = same_name f.name g.name in
    let type = same_ty f.result g.result in
    let params = same_list same_ty (map (λ p. p.ty) f.params) (map (λ p. p.ty) g.params) in
    same_name_true f.name g.name (left_true name type (left_true (name && type) params h))

module _ (rules : Rules) (sound : AreSound rules) (scope : Scope) (source target : Module) (of_source : scope_of source ≡ scope) (of_target : scope_of target ≡ scope) where
  abbrev R : ℕ → State → State → Type 0
  R = AreStatesRelated rules scope

  moves : (k : ℕ) (s t : State) → R k s t → Moves source target R k s t
  moves k s t (inl r) =
      let w = beside rules scope r.source r.target r.hint in
      subst (λ n. Moves source target R n s t) (sym r.is_k)
      (subst₂ (Moves source target R (own_lines r.left)) (sym r.is_s) (sym r.is_t)
      (blocks_move source target w of_source of_target sound r.blocks r.pair_fine r.block r.names r.onward
      (ends_move source target w of_source of_target sound r.blocks r.pair_fine r.block r.names r.onward)
      r.left r.place r.known r.pairs r.source_run r.target_run r.stand r.good r.defined))
  moves k s t (inr over) = inr (λ made follows. absurd (subst (λ z. Follows (asks target z) made) over.1 follows))

  -- two functions of a name: none on both sides, or a pair that is accepted under some hint
  abbrev AreOneName : Option Function → Option Function → Type 0
  AreOneName None None = Unit {0}
  AreOneName (Some f) (Some g) = ((hint : Hint) × Accepts (beside rules scope f g hint)) × ArePhisApart f × ArePhisApart g
  AreOneName None (Some g) = ⊥
  AreOneName (Some f) None = ⊥

  named : (x : Name) (fs gs : List Function) → AllByRecursion ArePhisApart fs → AllByRecursion ArePhisApart gs → AreAccepted rules scope fs gs
      → AreOneName (function_named x fs) (function_named x gs)
  named x [] [] first second accepted = tt
  named x [] (g ∷ gs) first second accepted = absurd accepted
  named x (f ∷ fs) [] first second accepted = absurd accepted
  named x (f ∷ fs) (g ∷ gs) first second accepted =
      let name = signature_name f g accepted.0 in
      ⊎_elim
      (λ e.
      let e' : same_name g.name x ≡ true = subst (λ y. same_name y x ≡ true) name e in
      subst₂ AreOneName (sym (cond-true (same_name f.name x) (Some f) (function_named x fs) e))
      (sym (cond-true (same_name g.name x) (Some g) (function_named x gs) e')) (accepted.1, first.0, second.0))
      (λ e.
      let e' : same_name g.name x ≡ false = subst (λ y. same_name y x ≡ false) name e in
      subst₂ AreOneName (sym (cond-false (same_name f.name x) (Some f) (function_named x fs) e))
      (sym (cond-false (same_name g.name x) (Some g) (function_named x gs) e')) (named x fs gs first.1 second.1 accepted.2))
      (cases_Bool (same_name f.name x))

  starts : (o p : Option Function) (input : Input) → AreOneName o p
      → AreStartsRelated rules scope (option_and_then (λ f. started (scope_of source) f input) o) (option_and_then (λ g. started (scope_of target) g input) p)
  starts None None input h = tt
  starts (Some f) (Some g) input h =
      subst₂ (λ s t. AreStartsRelated rules scope (started s f input) (started t g input)) (sym of_source) (sym of_target)
      (accepted_start (beside rules scope f g h.0.0) h.0.1 h.1 h.2 input)
  starts None (Some g) input h = absurd h
  starts (Some f) None input h = absurd h

  -- what starts related may show
  may_show : (o p : Option State) → AreStartsRelated rules scope o p → (n : ℕ) (items : List Item)
      → MatchOption p ⊥ (λ t. ShowsFrom target n t items) → MatchOption o ⊥ (λ s. MayShowFrom source s items)
  may_show o None related n items shows = absurd shows
  may_show None (Some t) related n items shows = absurd related
  may_show (Some s) (Some t) related n items shows = simulates source target R moves n related.0 s t items related.1 shows

pub accepted_modules : AcceptedModulesRefine
accepted_modules rules source target sound scopes source_apart target_apart accepted x input n items shows =
    let scope = scope_of source in
    may_show rules sound scope source target refl (sym scopes) (start source x input) (start target x input)
    (starts rules sound scope source target refl (sym scopes) (function_named x source.functions) (function_named x target.functions) input
    (named rules sound scope source target refl (sym scopes) x source.functions target.functions source_apart target_apart accepted)) n items shows
