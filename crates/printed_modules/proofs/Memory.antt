-- Printed lines that take and write memory are texts that name them.
use Rattle.std.proofs.Common.{◌≡◌, ℕ, Bool, true, false, List, ◌++◌, Option, Some, None, append_assoc, refl, ap, sym, ◌∙◌, subst}
use Rattle.std.specs.Prelude.{codes, cond, nat_eq}
use Rattle.std.proofs.lemmas.Bool.{cond-false, eqb-true}
use Rattle.ir_core.specs.declared.functions.Alloca.{Alloca}
use Rattle.ir_core.specs.declared.functions.Store.{Store}
use Rattle.ir_core.specs.declared.modules.Module.{Module}
use Rattle.ir_core.specs.Ranges.{IsCountInRange, IsTypeInRange, is_written, written_at_level}
use Rattle.ir_core.specs.StatedTypes.{stated_by_count}
use Rattle.ir_core.specs.WellFormed.{IsTypeKnown}
use Rattle.std.specs.List.{AllByRecursion}
use Rattle.ir_types.proofs.Induction as fold
use Rattle.ir_types.specs.declared.names.Name.{Name}
use Rattle.ir_types.specs.declared.ty.Ty.{Ty}
use Rattle.ir_types.specs.declared.ty.Ty.TheVariants as ty
use Rattle.ir_printer.specs.Printed.{count_text, store_text}
use Rattle.ir_printer.specs.ExpressionPrinter.Printed.{printed_align, printed_type}
use Rattle.module_grammar.specs.declared.lines.AllocaText.{AllocaText}
use Rattle.module_grammar.specs.declared.lines.CountText.{CountText}
use Rattle.module_grammar.specs.declared.lines.StoreText.{StoreText}
use Rattle.module_grammar.specs.declared.words.KeyWord.TheVariants as key
use Rattle.module_grammar.specs.declared.words.Language.TheVariants.{Ir}
use Rattle.module_grammar.specs.Lines as lines
use Rattle.named_modules.specs.Lines.{IsAlloca, IsCount, IsStore}
use Rattle.named_modules.specs.Types.{int_of, type_of}
use Rattle.named_modules.specs.Values.{Registers}
use Rattle.printed_modules.proofs.Fit.{FitsAlloca, FitsStore}
use Rattle.printed_modules.proofs.Fitted as fitted
use Rattle.printed_modules.proofs.Tidy.{IsCountKept}
use Rattle.printed_tokens.proofs.Marks.{comma, key, space}
use Rattle.printed_tokens.proofs.ModuleTypes.{HasNames}
use Rattle.printed_tokens.proofs.Numbers.{int}
use Rattle.printed_tokens.proofs.Prints.{Prints, before, both, empty, read_as}
use Rattle.printed_tokens.proofs.ReadTexts.{Stops}
use Rattle.printed_tokens.proofs.Values.{align, align_stops}

some_is : (a b : ℕ) → Some a ≡ Some b → a ≡ b
some_is a b e = cc

-- a count that isn't 1 is kept
not_one : (n : ℕ) → (n ≡ 1 → ⊥) → nat_eq n 1 ≡ false
not_one n other = by (nat_eq n 1) refl
  where
    by : (b : Bool) → nat_eq n 1 ≡ b → nat_eq n 1 ≡ false
    by true is = absurd (other (eqb-true n 1 is))
    by false is = is

-- the range of a type that is no result
written : (t : Ty) → IsTypeInRange t → is_written t ≡ true
written (ty.Int w) range = fold.at_int Bool written_at_level w ∙ range
written t range = range

count_stops : (c : Option (Ty × ℕ)) (rest : List ℕ) → Stops rest → Stops (count_text c ++ rest)
count_stops None rest stop = stop
count_stops (Some c) rest stop = refl

module _ (m : Module) (names : HasNames m) where
  abbrev NamesCount : Option (Ty × ℕ) → Option CountText → Type 0
  NamesCount count w = IsCount m w count × IsCountKept w

  count : (c : Option (Ty × ℕ)) → IsCountInRange c → AllByRecursion (IsTypeKnown m) (stated_by_count c)
      → Prints Ir Stops lines.count (NamesCount c) (count_text c)
  count None range known = read_as Ir lines.count (NamesCount None) (λ t. None) (λ t named. refl) (λ t named. (refl, tt)) (empty Ir Stops)
  count (Some c) range known =
      read_as Ir lines.count (NamesCount (Some c)) (λ t. Some (record { ty = t.0; number = t.1 })) (λ t named. refl)
      (λ t named.
      let found : int_of (type_of t.0) t.1 ≡ Some c.1 = subst (λ u. int_of u t.1 ≡ Some c.1) named.0.0 named.1 in
      let kept : Some c ≡ cond (nat_eq c.1 1) None (Some (type_of t.0, c.1)) =
      ap (λ u. Some (u, c.1)) named.0.0 ∙ sym (cond-false (nat_eq c.1 1) _ _ (not_one c.1 range.2)) in (
        ((refl, named.0.1), rw found kept),
        λ one. range.2 (some_is c.1 1 (sym found ∙ one)),
      ))
      (before Ir (comma Ir) (both Ir (fitted.type m names c.0 (written c.0 range.0, known.0)) (before Ir (space Ir) (int Ir c.0 c.1 (written c.0 range.0) range.1)) (λ rest end. refl)))

  module _ (rs : Registers) (labels : List Name) where
    abbrev pub NamesAlloca : Alloca → AllocaText → Type 0
    NamesAlloca a w = IsAlloca m w a × IsCountKept w.count

    -- what stands behind `=`
    pub alloca : (a : Alloca) → FitsAlloca m rs labels a
        → Prints Ir Stops lines.alloca (NamesAlloca a) (codes "alloca " ++ (printed_type a.of ++ (count_text a.count ++ printed_align a.align)))
    alloca a fits =
        read_as Ir lines.alloca (NamesAlloca a) (λ t. record { ty = t.0; count = t.1.0; align = t.1.1 }) (λ t named. refl)
        (λ t named. ((named.0, fits.to, named.1.0.0, named.1.1), named.1.0.1))
        (before Ir (key Ir key.Alloca tt)
        (both Ir (fitted.type m names a.of fits.of)
        (both Ir (count a.count fits.count fits.counted) (align Ir a.align fits.align) (align_stops a.align))
        (λ rest end. subst Stops (sym (append_assoc (count_text a.count) (printed_align a.align) rest)) (count_stops a.count (printed_align a.align ++ rest) (align_stops a.align rest end)))))

    pub store : (s : Store) → FitsStore m rs labels s → Prints Ir Stops lines.store (λ (w : StoreText). IsStore m rs w s) (store_text s)
    store s fits =
        read_as Ir lines.store (λ (w : StoreText). IsStore m rs w s) (λ t. record { value = t.0; address = t.1.0; align = t.1.1 }) (λ t named. refl)
        (λ t named. (named.0, named.1.0, named.1.1))
        (before Ir (key Ir key.Store tt)
        (both Ir (fitted.operand m names rs labels s.value fits.value)
        (before Ir (comma Ir) (both Ir (fitted.operand m names rs labels s.pointer fits.pointer) (align Ir s.align fits.align) (align_stops s.align)))
        (λ rest end. refl)))
