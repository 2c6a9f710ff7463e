-- Lines that are read one by one, but for those that are dropped.
use Rattle.std.proofs.Common.{◌≡◌, ◌∙◌, ◌<◌, ◌^◌, ℕ, Bool, true, false, not, cond, List, [], ◌∷◌, ◌++◌, Option, None, Some, ap, refl, sym}
use Rattle.std.proofs.lemmas.List.{append-nil}
use Rattle.std.specs.List.{filter}
use Rattle.ir_core.specs.declared.functions.Instr.{Instr}
use Rattle.ir_core.specs.Functions.{name_set}
use Rattle.ir_types.specs.declared.named.NamedTy.{NamedTy}
use Rattle.ir_types.specs.declared.names.Name.{Name}
use Rattle.module_walk.proofs.Counted.{capped_is}
use Rattle.module_walk.proofs.Due.{behind_lines_capped, lines_capped, or_capped}
use Rattle.module_walk.specs.Counted.{capped, due_or}
use Rattle.module_grammar.specs.declared.lines.AttachedText.{AttachedText}
use Rattle.module_grammar.specs.declared.lines.LineText.{LineText}
use Rattle.module_grammar.specs.declared.places.Placed.{Placed}
use Rattle.module_walk.proofs.BuiltLines.{line_kept}
use Rattle.module_walk.specs.Lines.{first_kept, line_named}
use Rattle.named_modules.specs.Built.{due_behind, due_behind_lines, line_at, lines_from, name_due}
use Rattle.named_modules.specs.Lines.{is_dropped, is_kept}

-- ---- a line

is_none : (dropped : Bool) (line : Instr) → None ≡ cond dropped None (Some line) → dropped ≡ true
is_none true line e = refl
is_none false line e = cc

is_some : (dropped : Bool) (line read : Instr) → Some read ≡ cond dropped None (Some line) → (dropped ≡ false) × (read ≡ line)
is_some true line read e = cc
is_some false line read e = (refl, cc)

module _ (types : List NamedTy) (due : ℕ) (register : Option (Placed Name)) (a : AttachedText) (x : Name) (named : x ≡ name_due due register) where
  abbrev first : LineText
  first = record { register = register; attached = a }

  -- what is read, where the name is known
  read_as : (read : Option Instr) → read ≡ line_named types x a.instruction → read ≡ cond (is_dropped a.instruction) None (Some (line_at types due register a.instruction))
  read_as read e = e ∙ ap (λ n. line_named types n a.instruction) named ∙ line_kept due register types a.instruction

  none_kept : None ≡ line_named types x a.instruction → first_kept register a ≡ []
  none_kept e = ap (λ b. cond (not b) (first ∷ []) []) (is_none (is_dropped a.instruction) (line_at types due register a.instruction) (read_as None e))

  one_kept : (line : Instr) → Some line ≡ line_named types x a.instruction → (first_kept register a ≡ first ∷ []) × (line ≡ line_at types due register a.instruction)
  one_kept line e =
      let s = is_some (is_dropped a.instruction) (line_at types due register a.instruction) line (read_as (Some line) e) in
      (ap (λ b. cond (not b) (first ∷ []) []) s.0, s.1)

  pub dropped_lines : None ≡ line_named types x a.instruction → (read : List Instr) → read ≡ read ++ lines_from types due (first_kept register a)
  dropped_lines e read = sym (ap (λ ws. read ++ lines_from types due ws) (none_kept e) ∙ append-nil read)

  pub dropped_due : None ≡ line_named types x a.instruction → due < 2 ^ 64 → due ≡ capped (due_behind_lines types due (first_kept register a))
  dropped_due e less = capped_is due less ∙ sym (ap (λ ws. capped (due_behind_lines types due ws)) (none_kept e))

  pub kept_lines : (line : Instr) → Some line ≡ line_named types x a.instruction → (read more : List Instr) → more ≡ read ++ line ∷ []
      → more ≡ read ++ lines_from types due (first_kept register a)
  kept_lines line e read more put =
      let one = one_kept line e in
      put ∙ ap (λ i. read ++ i ∷ []) one.1 ∙ sym (ap (λ ws. read ++ lines_from types due ws) one.0)

  pub kept_due : (line : Instr) → Some line ≡ line_named types x a.instruction → (behind next : ℕ) → behind ≡ capped (due_behind due register)
      → next ≡ due_or due behind (name_set line) → due < 2 ^ 64 → next ≡ capped (due_behind_lines types due (first_kept register a))
  kept_due line e behind next counted is less =
      let one = one_kept line e in
      is
      ∙ ap (λ n. due_or due n (name_set line)) counted
      ∙ ap (λ i. due_or due (capped (due_behind due register)) (name_set i)) one.1
      ∙ or_capped due (name_set (line_at types due register a.instruction)) register less
      ∙ sym (ap (λ ws. capped (due_behind_lines types due ws)) one.0)

-- ---- a line and those behind it

module _ (types : List NamedTy) (due next : ℕ) (w : LineText) (ws : List LineText) (counted : next ≡ capped (due_behind_lines types due (filter is_kept (w ∷ [])))) where
  lines_if : (kept : Bool) → lines_from types due (cond kept (w ∷ filter is_kept ws) (filter is_kept ws))
      ≡ lines_from types due (cond kept (w ∷ []) []) ++ lines_from types (due_behind_lines types due (cond kept (w ∷ []) [])) (filter is_kept ws)
  lines_if true = refl
  lines_if false = refl

  due_if : (kept : Bool) → due_behind_lines types due (cond kept (w ∷ filter is_kept ws) (filter is_kept ws))
      ≡ due_behind_lines types (due_behind_lines types due (cond kept (w ∷ []) [])) (filter is_kept ws)
  due_if true = refl
  due_if false = refl

  pub lines_behind : lines_from types due (filter is_kept (w ∷ [])) ++ lines_from types next (filter is_kept ws) ≡ lines_from types due (filter is_kept (w ∷ ws))
  lines_behind =
      let here = lines_from types due (filter is_kept (w ∷ [])) in
      ap (λ n. here ++ lines_from types n (filter is_kept ws)) counted
      ∙ ap (λ more. here ++ more) (lines_capped types (due_behind_lines types due (filter is_kept (w ∷ []))) (filter is_kept ws))
      ∙ sym (lines_if (is_kept w))

  pub due_behind_more : capped (due_behind_lines types next (filter is_kept ws)) ≡ capped (due_behind_lines types due (filter is_kept (w ∷ ws)))
  due_behind_more =
      ap (λ n. capped (due_behind_lines types n (filter is_kept ws))) counted
      ∙ behind_lines_capped types (due_behind_lines types due (filter is_kept (w ∷ []))) (filter is_kept ws)
      ∙ ap capped (sym (due_if (is_kept w)))
