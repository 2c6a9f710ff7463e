-- What the tokens of a text are where they stand is decided: the same pass as that of `token_context`, with a decision in place of a parser.
use Rattle.std.proofs.Common.{◌≡◌, ℕ, suc, ◌+◌, ◌-◌, Bool, true, false, cond, ◌&&◌, nat_eq, List, [], ◌∷◌, ◌++◌, length, map, Option, Some, None, ◌⊎◌, inl, inr, refl, ap, sym, ◌∙◌, append_assoc, subst, arith}
use Rattle.std.proofs.lemmas.Bool.{ltb-true}
use Rattle.std.proofs.lemmas.List.{append-nil, length-append}
use Rattle.std.specs.List.{slice_range}
use Rattle.predictive.specs.GrammarDecides.Decision.{decided}
use Rattle.module_grammar.proofs.Predictive.{is_predictive}
use Rattle.module_grammar.specs.Sets.{sets}
use Rattle.module_grammar.specs.Symbols.{Symbol, kind_of, open_paren, unnamed_addr, void}
use Rattle.module_grammar.specs.Tokens.{token_grammar}
use Rattle.module_spelling.specs.Context.{called_number, declared_number}
use Rattle.predictive.specs.Grammar.{Forest, Forms, IsFirstFault, after_trees, yield}
use Rattle.predictive.specs.Predictive.{MayEnd}
use Rattle.predictive.specs.declared.symbol.Symbol.TheVariants.{Non}
use Rattle.token_context.proofs.Contexts.{context_first, context_more}
use Rattle.token_context.proofs.Held.{state}
use Rattle.token_context.proofs.Seen.{seen}
use Rattle.token_context.proofs.Slices.{slice_behind}
use Rattle.token_context.proofs.Watched.{IsStart, read_other, read_within}
use Rattle.token_context.specs.Readings.{IsContext, IsRead, IsReadBehind, Reads, debug_kind, deep_seen, due, global_kind, kind_seen, reading_of}
use Rattle.token_context.specs.declared.brackets.Opened.{Opened}
use Rattle.token_context.specs.declared.reading.Reading.{Reading}
use Rattle.token_context.specs.declared.reading.Reading.TheVariants.{Whole, Other}
use Rattle.derivation_writer.specs.TokenLimits.Watched.{begun, fresh, reduced, shifted}
use Rattle.derivation_writer.specs.declared.token_limits.watch.Watch.{Watch}

-- ---- tokens of a nonterminal

-- tokens of these kinds are derived of the nonterminal, or have a first fault
abbrev pub Verdict : ℕ → List ℕ → Type 0
Verdict n kinds =
    ((f : Forest) × Forms token_grammar f (Non n ∷ []) × (yield f ≡ kinds)) ⊎ ((place : ℕ) × IsFirstFault token_grammar (Non n ∷ []) kinds place)

pub verdict : (n : ℕ) → MayEnd sets n → (kinds : List ℕ) → Verdict n kinds
verdict n may kinds = decided token_grammar sets is_predictive n may kinds

abbrev watched : Forest → Watch
watched f = after_trees begun shifted reduced f fresh

reads : (n : ℕ) → IsStart n → MayEnd sets n → (kinds : List ℕ) → (r : Reading) × Reads n kinds r
reads n start may kinds = by (verdict n may kinds)
  where
    by : Verdict n kinds → (r : Reading) × Reads n kinds r
    by (inl d) = (
      reading_of (watched d.0).mark,
      read_within n kinds None fresh (watched d.0) (watched d.0).mark (reading_of (watched d.0).mark) start refl refl refl refl (d.0, d.1, d.2, refl),
    )
    by (inr fault) = (Other, read_other n kinds (Some fault.0) fresh fresh fault.0 refl fault.1)

-- ---- what stands between two brackets

between_is :
    (kinds front inside rest : List ℕ) (o c place end : ℕ) → kinds ≡ front ++ (o ∷ (inside ++ (c ∷ rest))) → place ≡ length front
    → end ≡ length front + suc (suc (length inside)) → slice_range kinds (place + 1) (end - 1) ≡ inside
between_is kinds front inside rest o c place end e p q =
    let n : length (front ++ (o ∷ [])) ≡ length front + 1 = length-append front (o ∷ []) in
    ap (λ l. slice_range l (place + 1) (end - 1)) (e ∙ sym (append_assoc front (o ∷ []) (inside ++ (c ∷ rest))))
    ∙ slice_behind (front ++ (o ∷ [])) inside (c ∷ rest) (place + 1) (end - 1) (omega (arith, n, p)) (omega (arith, n, q))

-- what has to stand there may be decided
abbrev MayStand : Option ℕ → Type 0
MayStand None = Unit {0}
MayStand (Some n) = IsStart n × MayEnd sets n

read_due : (o : Option ℕ) → MayStand o → (kinds : List ℕ) (place end : ℕ) → (r : Reading) × IsRead o kinds place end r
read_due None may kinds place end = (Whole, refl)
read_due (Some n) may kinds place end =
    let r = reads n may.0 may.1 (slice_range kinds (place + 1) (end - 1)) in
    (r.0, λ front inside rest o c e p q. subst (λ l. Reads n l r.0) (between_is kinds front inside rest o c place end e p q) r.1)

by_tests : (a b c : Bool) → MayStand (cond a (cond b (Some called_number) (cond c (Some declared_number) None)) None)
by_tests false b c = tt
by_tests true true c = (inl refl, (ltb-true 38 94 refl, refl))
by_tests true false true = (inr refl, (ltb-true 7 94 refl, refl))
by_tests true false false = tt

due_may : (pair : Opened) (k : ℕ) → MayStand (due pair k)
due_may pair k =
    by_tests (nat_eq pair.kind (kind_of open_paren)) (nat_eq k global_kind && nat_eq pair.behind (kind_of void))
    (nat_eq k (kind_of unnamed_addr) && nat_eq pair.behind debug_kind)

read_behind : (o : Option Opened) (kinds : List ℕ) (end k : ℕ) → (r : Reading) × IsReadBehind o kinds end k r
read_behind None kinds end k = (Whole, refl)
read_behind (Some pair) kinds end k = read_due (due pair k) (due_may pair k) kinds pair.place end

-- ---- all tokens

pub record Context (own : List Symbol) : Type 0 where
  pub kinds : List ℕ
  pub places : List ℕ
  pub is : IsContext own kinds places

one_more : (done more : List Symbol) (s : Symbol) → Context done → Context (done ++ (s ∷ []))
one_more done more s c =
    let r = read_behind (state done).closed (map kind_of (done ++ more)) (length done) (kind_of s) in
    record {
      kinds = c.kinds ++ (kind_seen (kind_of s) r.0 ∷ []);
      places = c.places ++ deep_seen (length done) r.0;
      is = context_more done s r.0 c.kinds c.places (seen done more s r.0 r.1) c.is;
    }

all_more : (done more : List Symbol) → Context done → Context (done ++ more)
all_more done [] c = subst Context (sym (append-nil done)) c
all_more done (s ∷ more) c = subst Context (append_assoc done (s ∷ []) more) (all_more (done ++ (s ∷ [])) more (one_more done (s ∷ more) s c))

pub context : (own : List Symbol) → Context own
context own = all_more [] own (record { kinds = []; places = []; is = context_first })
