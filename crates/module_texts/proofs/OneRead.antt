-- What is first at fault in a tree of tokens is one, whatever is told of names around which nothing is stated.
use Rattle.std.proofs.Common.{◌≡◌, ℕ, Bool, true, false, nat_eq, nat_lt, List, [], ◌∷◌, map, refl, ap, sym, ◌∙◌, subst, arith}
use Rattle.std.specs.Prelude.{◌==◌, ◌&&◌, ◌||◌}
use Rattle.std.proofs.lemmas.Bool.{eqb-false, eqb-true}
use Rattle.std.specs.List.{AllByRecursion, Contains}
use Rattle.ir_lexer.specs.Cut.{Placed as PlacedToken}
use Rattle.module_grammar.specs.Functions.{param}
use Rattle.module_grammar.specs.Laws.{WritesOneTree}
use Rattle.module_grammar.specs.Modules.{written}
use Rattle.module_grammar.specs.Sorts.{Module as ModuleSort}
use Rattle.module_grammar.specs.Spelled.{symbol}
use Rattle.module_grammar.specs.Symbols.{Symbol}
use Rattle.module_grammar.specs.Types.{ty}
use Rattle.module_grammar.specs.declared.functions.DeclaredText.{DeclaredText}
use Rattle.module_grammar.specs.declared.items.ModuleText.{ModuleText}
use Rattle.module_grammar.specs.declared.types.CalledText.{CalledText}
use Rattle.module_grammar.specs.declared.words.Language.TheVariants.{Ir}
use Rattle.module_spelling.specs.Blocks.{large_places}
use Rattle.module_spelling.specs.Context.{StandFor}
use Rattle.module_spelling.specs.Faults.{HasLargeBlock, HasNameFault, IsFirstOf, IsRead, faults_in, large_in}
use Rattle.name_claims.specs.Faults.{rank}
use Rattle.name_claims.specs.declared.claims.Fault.{Fault}
use Rattle.named_modules.proofs.Lists.{contains_behind, contains_here}
use Rattle.named_modules.specs.Built.{module_of}
use Rattle.named_modules.specs.Faults.{faults_of, heads_of}
use Rattle.module_spelling.specs.Around.{called_names, declared_names}
use Rattle.module_spelling.specs.TokenLaws.{CalledNamesStand, DeclaredNamesStand}
use Rattle.module_texts.proofs.Apart.{IsToken, params_stand, symbols_stand, told, told_alike, types_stand, written_stands}
use Rattle.module_texts.proofs.Kept.{params_may_stand, types_may_stand}
use Rattle.module_texts.proofs.Lists.{all_to}
use Rattle.module_texts.proofs.Marked.{IsDueAt, are_marked, marks_of}
use Rattle.module_texts.proofs.Resting.{AreAlike, built_same, faults_same}
use Rattle.module_texts.proofs.Standing.{AllStand, FaultStands, Faults, ParamsStand, StatedStands, of_module}
use Rattle.module_texts.proofs.Starts.{AreFrom}

abbrev pub NotNot : Type 0 → Type 0
NotNot P = (P → ⊥) → ⊥

all_not : {X : Type 0} (P : X → Type 0) (xs : List X) → ((x : X) → Contains xs x → NotNot (P x)) → NotNot (AllByRecursion P xs)
all_not P [] each none = none tt
all_not P (x ∷ xs) each none =
    each x (contains_here x xs) (λ first. all_not P xs (λ y has. each y (contains_behind x y xs has)) (λ rest. none (first, rest)))

number_is : (a b : ℕ) → NotNot (a ≡ b) → a ≡ b
number_is a b not = by (nat_eq a b) refl
  where
    by : (same : Bool) → nat_eq a b ≡ same → a ≡ b
    by true e = eqb-true a b e
    by false e = absurd (not (eqb-false a b e))

level : (p a q b : ℕ) → (nat_lt p q || ((p == q) && nat_lt a b)) ≡ false → (nat_lt q p || ((q == p) && nat_lt b a)) ≡ false → (p ≡ q) × (a ≡ b)
level p a q b e f = (grind (arith, e, f), grind (arith, e, f))

-- two faults that are first are told alike
pub record AreLevel (f g : Fault) : Type 0 where
  pub start : f.start ≡ g.start
  pub rank : rank f.reason ≡ rank g.reason
  pub told : told f ≡ told g

module _ (once : WritesOneTree ModuleSort) (calls : CalledNamesStand) (declares : DeclaredNamesStand) (text : List ℕ) (tokens : List PlacedToken) (from : AreFrom 0 tokens) (symbols : List Symbol) (stand : StandFor (map (symbol Ir text) tokens) symbols) where
  abbrev own : List Symbol
  own = map (symbol Ir text) tokens

  -- two readings say the same of names around which something is stated
  same_called : (r s : IsRead symbols) → NotNot (AreAlike r.stated s.stated (called_names s.tree))
  same_called r s =
      all_not (λ x. r.stated x ≡ s.stated x) (called_names s.tree)
      (λ x has differ.
      let at = calls s.tree symbols x s.written has in
      types_may_stand own symbols stand at.0 at.1 at.2 x at.3 at.4 (λ c is. differ (r.types x c is ∙ sym (s.types x c is))))

  same_declared : (r s : IsRead symbols) → NotNot (AreAlike r.params s.params (declared_names s.tree))
  same_declared r s =
      all_not (λ x. r.params x ≡ s.params x) (declared_names s.tree)
      (λ x has differ.
      let at = declares s.tree symbols x s.written has in
      params_may_stand own symbols stand at.0 at.1 at.2 x at.3 at.4 (λ c is. differ (r.declared x c is ∙ sym (s.declared x c is))))

  same_read : (r s : IsRead symbols) → NotNot ((faults_in r ≡ faults_in s) × (large_in r ≡ large_in s))
  same_read r s differ =
      let tree : r.tree ≡ s.tree = once r.tree s.tree symbols r.written s.written in
      same_called r s (λ called.
      same_declared r s (λ declared.
      differ (
        ap (faults_of r.stated r.params) tree ∙ faults_same r.stated s.stated r.params s.params s.tree called declared,
        ap (λ (w : ModuleText). large_places (heads_of (module_of r.params w)) w) tree ∙ ap (λ m. large_places (heads_of m) s.tree) (built_same r.params s.params s.tree declared),
      )))

  -- what is at fault stands at tokens
  module _ (r : IsRead symbols) where
    abbrev IsEnd : ℕ → ℕ → Type 0
    IsEnd = IsToken tokens

    abbrev IsDue : ℕ → ℕ → Type 0
    IsDue = IsDueAt (marks_of r.tree.items)

    calls_stand : NotNot (AllByRecursion (StatedStands IsEnd IsDue r.stated) (called_names r.tree))
    calls_stand =
        all_not (StatedStands IsEnd IsDue r.stated) (called_names r.tree)
        (λ x has none.
        let at = calls r.tree symbols x r.written has in
        types_may_stand own symbols stand at.0 at.1 at.2 x at.3 at.4
        (λ c is. none (subst (λ (c : CalledText). AllByRecursion (λ t. AllStand IsEnd IsDue (ty t)) c.types) (sym (r.types x c is)) (types_stand IsEnd IsDue symbols x c (symbols_stand text tokens from symbols stand IsDue) is))))

    names_stand : NotNot (AllByRecursion (ParamsStand IsEnd IsDue r.params) (declared_names r.tree))
    names_stand =
        all_not (ParamsStand IsEnd IsDue r.params) (declared_names r.tree)
        (λ x has none.
        let at = declares r.tree symbols x r.written has in
        params_may_stand own symbols stand at.0 at.1 at.2 x at.3 at.4
        (λ c is. none (subst (λ (c : DeclaredText). AllByRecursion (λ p. AllStand IsEnd IsDue (param p)) c.params) (sym (r.declared x c is)) (params_stand IsEnd IsDue symbols x c (symbols_stand text tokens from symbols stand IsDue) is))))

    faults_stand : NotNot (Faults IsEnd IsDue (faults_in r))
    faults_stand none =
        calls_stand (λ stated.
        names_stand (λ declared.
        none (of_module IsEnd IsDue r.stated r.params r.tree (written_stands IsEnd IsDue (written r.tree) symbols r.written (symbols_stand text tokens from symbols stand IsDue)) stated declared (are_marked r.tree.items))))

    are_level : (f g : Fault) → IsFirstOf (faults_in r) f → IsFirstOf (faults_in r) g → Faults IsEnd IsDue (faults_in r) → AreLevel f g
    are_level f g first second each =
        let same = level f.start (rank f.reason) g.start (rank g.reason) (second.1 f first.0) (first.1 g second.0) in
        record {
          start = same.0;
          rank = same.1;
          told =
              told_alike text tokens from symbols stand r.tree r.written f g (all_to (FaultStands IsEnd IsDue) (faults_in r) each f first.0)
              (all_to (FaultStands IsEnd IsDue) (faults_in r) each g second.0) same.0 same.1;
        }

  pub one_name_fault : (f g : Fault) → HasNameFault symbols f → HasNameFault symbols g → AreLevel f g
  one_name_fault f g (r, first, before) (s, second, below) =
      let same = λ (P : Type 0) (get : AreLevel f g → P) (differ : P → ⊥).
      same_read r s (λ both. faults_stand s (λ each. differ (get (are_level s f g (subst (λ fs. IsFirstOf fs f) both.0 first) second each)))) in
      record {
        start = number_is f.start g.start (same (f.start ≡ g.start) (λ e. e.start));
        rank = number_is (rank f.reason) (rank g.reason) (same (rank f.reason ≡ rank g.reason) (λ e. e.rank));
        told = number_is (told f) (told g) (same (told f ≡ told g) (λ e. e.told));
      }

  pub name_fault_or_block : (f : Fault) → HasNameFault symbols f → HasLargeBlock symbols → ⊥
  name_fault_or_block f (r, first, before) (s, (place, large, all)) =
      same_read r s (λ both.
      let less = before place (subst (λ ps. Contains ps place) (sym both.1) large) in
      let more = all f (subst (λ fs. Contains fs f) both.0 first.0) in
      omega (arith, less, more))
