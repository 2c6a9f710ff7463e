use Rattle.std.proofs.Common.{◌≡◌, ◌<◌, ℕ, true, nat_lt, [], ◌∷◌, refl, arith}
use Rattle.std.proofs.lemmas.Bool.{ltb-true}
use Rattle.derivation_writer.specs.Examples.{NumbersAreWritten}
use Rattle.module_grammar.specs.Tokens.{token_grammar}
use Rattle.module_spelling.specs.Opened.{IsWithin}
use Rattle.predictive.specs.Grammar.{End, Forest, Forms, Leaf, Node}
use Rattle.predictive.specs.declared.symbol.Symbol.TheVariants.{Non}
use Rattle.derivation_writer.proofs.TokenLimits.Marks.{marked_all}
use Rattle.derivation_writer.specs.TokenLimits.Roles.{role_of}

-- a rule's number is one
is_rule : (p : ℕ) → nat_lt p 280 ≡ true → p < 280
is_rule p e = ltb-true p 280 e

abbrev type : Forest
type = Node 74 (Node 75 (Leaf 5 End) (Node 80 (Leaf 17 (Node 79 End End)) End)) End

abbrev items : Forest
items = Node 1 (Node 3 (Leaf 55 (Leaf 73 (Leaf 65 (Leaf 19 (Node 206 End (Leaf 68 End)))))) (Node 0 End End)) End

type_formed : Forms token_grammar type (Non 33 ∷ [])
type_formed =
    (is_rule 74 refl, refl, (is_rule 75 refl, refl, (refl, tt), (is_rule 80 refl, refl, (refl, (is_rule 79 refl, refl, tt, tt)), tt)), tt)

items_formed : Forms token_grammar items (Non 0 ∷ [])
items_formed = (
  is_rule 1 refl,
  refl,
  (
    is_rule 3 refl,
    refl,
    (refl, (refl, (refl, (refl, (is_rule 206 refl, refl, tt, (refl, tt)))))),
    (is_rule 0 refl, refl, tt, tt),
  ),
  tt,
)

-- no token passes a limit
type_within : IsWithin type
unfolding role_of
type_within = marked_all 33 type type_formed (λ e. absurd (omega (arith, e)))

items_within : IsWithin items
unfolding role_of
items_within = marked_all 0 items items_formed (λ e. absurd (omega (arith, e)))

pub numbers_are_written : NumbersAreWritten
numbers_are_written = record {
  type = (type, type_formed, refl, type_within, refl);
  items = (items, items_formed, refl, items_within, refl);
}
