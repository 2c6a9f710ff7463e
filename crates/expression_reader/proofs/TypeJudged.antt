-- Each text spells a type or has a fault, by the steps one behind the other.
use Rattle.std.proofs.Common.{◌≡◌, ◌⊎◌, inl, inr, ℕ, Bool, true, false, nat_lt, List, [], ◌∷◌, length, Option, None, Some, Ok, Err, refl}
use Rattle.std.specs.Prelude.{slice_get}
use Rattle.std.proofs.lemmas.Bool.{ltb-false, ltb-true}
use Rattle.predictive.proofs.GapJoint as joint
use Rattle.predictive.specs.Grammar.{Forest, Forms, IsFirstFault, after_some, after_trees, yield}
use Rattle.predictive.specs.declared.symbol.Symbol.TheVariants.{Non}
use Rattle.derivation_writer.proofs.Limits.{Begun, none_in_all, passed_before, passed_in_all, stuck}
use Rattle.derivation_writer.proofs.ReadMarks.Whole.{type_starts}
use Rattle.derivation_writer.specs.TokenLimits.Watched.{begun, fresh, reduced, shifted}
use Rattle.ir_core.specs.Limits.{text_limit}
use Rattle.ir_core.specs.declared.limits.Limit.{Limit}
use Rattle.ir_core.specs.declared.limits.Limit.TheVariants as limit
use Rattle.ir_types.specs.declared.ty.Ty.{Ty}
use Rattle.ir_lexer.specs.Cut.{Cut, Placed, cut}
use Rattle.ir_lexer.specs.declared.fault.TextFault.{TextFault}
use Rattle.ir_lexer.specs.declared.fault.TextFault.TheVariants as fault
use Rattle.ir_lexer.specs.declared.token.LexFault.TheVariants as lexer
use Rattle.module_grammar.proofs.Lawful.{lawful}
use Rattle.module_grammar.proofs.WithGap.{is_gapped}
use Rattle.module_grammar.specs.Rules.{meaning}
use Rattle.module_grammar.specs.Tokens.{token_grammar, with_gap}
use Rattle.module_grammar.specs.declared.types.TypeText.{TypeText}
use Rattle.module_spelling.specs.Faults.{IsStuck, PassesLimit}
use Rattle.module_texts.proofs.JudgedTexts.Contexts.{Verdict, verdict}
use Rattle.module_texts.proofs.JudgedTexts.Least.{first_fault}
use Rattle.module_texts.specs.Texts.{HasTokens, IsShort, own_symbols}
use Rattle.named_modules.specs.Types.{type_of}
use Rattle.name_claims.specs.declared.claims.Fault.{Fault}
use Rattle.expression_reader.specs.Types.{AreOfType, SpellsType, count_faults, own_kinds, type_number}
use Rattle.expression_reader.specs.TypeLaws.{EachTypeIsJudged, IsToldFault}
use Rattle.expression_reader.specs.ToldTypes.{of_place}
use Rattle.module_spelling.specs.Faults.{IsFirstOf}
use Rattle.expression_reader.proofs.NameTexts.{place_told}
use Rattle.expression_reader.proofs.ToldTypes.{limit_told, stuck_told}
use Rattle.expression_reader.proofs.TypeCut.{IsCutWell, cut_well}

-- a limit that a token of a type passes is told
limit_is : (l : Limit) → fault.Limit l ≡ fault.Memory → ⊥
limit_is l e = cc

module _ (bytes : List ℕ) where
  abbrev IsJudged : Type 0
  IsJudged = ((t : Ty) × IsShort bytes × SpellsType bytes t) ⊎ ((f : TextFault) × IsToldFault bytes f)

  module _ (tokens : List Placed) (has : HasTokens bytes tokens) where
    abbrev kinds : List ℕ
    kinds = own_kinds bytes tokens

    past : (l : Limit) → ((k : ℕ) × PassesLimit type_number kinds k l) → IsJudged
    past l passes = inr (fault.Limit l, (limit_told bytes tokens has l passes, limit_is l))

    not_expected : (k : ℕ) → IsStuck type_number kinds k → IsJudged
    not_expected k is = inr (of_place (length bytes) (slice_get tokens k), (stuck_told bytes tokens has k is, place_told (length bytes) (slice_get tokens k)))

    in_counts : (tree : TypeText) → AreOfType bytes tokens tree → ((f : Fault) × IsFirstOf (count_faults tree) f) ⊎ (count_faults tree ≡ []) → IsJudged
    in_counts tree read (inl first) = inr (fault.WrongType first.0.start, ((first.0, (tokens, has, (tree, read, first.1)), refl), λ m. cc))
    in_counts tree read (inr none) =
        inl (type_of tree, has.0, record { tokens = tokens; cut = has.1; tree = tree; read = read; counts = none; same = refl })

    of_derivation : (f : Forest) → Forms token_grammar f (Non 33 ∷ []) → yield f ≡ kinds → (m : Option Limit) → (after_trees begun shifted reduced f fresh).mark ≡ m → IsJudged
    of_derivation f formed yields (Some l) marks =
        past l (passed_in_all 33 type_starts.ends type_starts.other kinds f formed yields l marks)
    of_derivation f formed yields None marks =
        let all = joint.leaves meaning lawful with_gap is_gapped 33 (ltb-true 33 92 refl) f formed (own_symbols bytes tokens) yields in
        in_counts all.0
        (record {
          written = all.1;
          derivation = f;
          formed = formed;
          yields = yields;
          within = none_in_all 33 type_starts.ends type_starts.other kinds f formed marks;
        })
        (first_fault (count_faults all.0))

    of_fault : (place : ℕ) (fault : IsFirstFault token_grammar (Non 33 ∷ []) kinds place) (m : Option Limit) → (after_some begun shifted reduced place fault.1.1.0 fresh).mark ≡ m → IsJudged
    of_fault place fault m marks = by m (record {
      within = fault.0;
      more = fault.1.0;
      forest = fault.1.1.0;
      formed = fault.1.1.1;
      yields = fault.1.1.2;
      marks = marks;
    })
      where
        by : (m : Option Limit) → Begun 33 type_starts.ends type_starts.other kinds place m → IsJudged
        by (Some l) b = past l (passed_before 33 type_starts.ends type_starts.other kinds place l b)
        by None b = not_expected place (stuck 33 type_starts.ends type_starts.other kinds place fault b)

    of_verdict : Verdict 33 kinds → IsJudged
    of_verdict (inl d) = of_derivation d.0 d.1 d.2 (after_trees begun shifted reduced d.0 fresh).mark refl
    of_verdict (inr fault) = of_fault fault.0 fault.1 (after_some begun shifted reduced fault.0 fault.1.1.1.0 fresh).mark refl

  of_cut : (c : Cut) → IsShort bytes → cut 0 0 bytes ≡ c → IsCutWell c → IsJudged
  of_cut (Ok tokens) short e well = of_verdict tokens (short, e) (verdict 33 type_starts.ends (own_kinds bytes tokens))
  of_cut (Err (lexer.BadByte place)) short e well = inr (fault.BadByte place, ((short, e), λ m. cc))
  of_cut (Err (lexer.BadString place)) short e well = inr (fault.BadString place, ((short, e), λ m. cc))
  of_cut (Err (lexer.BadNumber place)) short e well = inr (fault.BadNumber place, ((short, e), λ m. cc))
  of_cut (Err lexer.Memory) short e well = absurd well
  of_cut (Err (lexer.Limit l)) short e well = absurd well

  by_length : (long : Bool) → nat_lt text_limit (length bytes) ≡ long → IsJudged
  by_length true e = inr (fault.Limit limit.Text, (ltb-true text_limit (length bytes) e, λ m. cc))
  by_length false e = of_cut (cut 0 0 bytes) (ltb-false text_limit (length bytes) e) refl (cut_well 0 0 bytes)

pub judged_type : EachTypeIsJudged
judged_type bytes = by_length bytes (nat_lt text_limit (length bytes)) refl
