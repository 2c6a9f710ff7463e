-- The kinds of symbols: what a symbol of a kind says beside its kind, and how that stands on the stack.
use Rattle.std.specs.Prelude.{ℕ, zero, suc, Bool, List, [], ◌∷◌, Option, Some, None}
use Rattle.ir_core.specs.declared.operands.Pred.{Pred as Predicate}
use Rattle.ir_lexer.specs.declared.token.Number.{Number as Numeral}
use Rattle.ir_types.specs.declared.names.Name.{Name}
use Rattle.module_grammar.specs.Parts.{the_leaf_local, the_leaf_global, the_leaf_label, the_leaf_number, the_leaf_width, the_leaf_truth, the_leaf_bytes, the_leaf_overflow, the_leaf_exact, the_leaf_plain, the_leaf_resize, the_leaf_pred, the_leaf_flag, the_leaf_linkage, the_leaf_extension, the_leaf_holding, the_leaf_at}
use Rattle.module_grammar.specs.Symbols as symbol
use Rattle.module_grammar.specs.Symbols.{Symbol}
use Rattle.module_grammar.specs.declared.items.HoldingWord.{HoldingWord}
use Rattle.module_grammar.specs.declared.operators.ExactOp.{ExactOp}
use Rattle.module_grammar.specs.declared.operators.ExtensionWord.{ExtensionWord}
use Rattle.module_grammar.specs.declared.operators.FlagWord.{FlagWord}
use Rattle.module_grammar.specs.declared.operators.LinkageWord.{LinkageWord}
use Rattle.module_grammar.specs.declared.operators.OverflowOp.{OverflowOp}
use Rattle.module_grammar.specs.declared.operators.PlainOp.{PlainOp}
use Rattle.module_grammar.specs.declared.operators.ResizeOp.{ResizeOp}
use Rattle.module_grammar.specs.declared.parts.Leaf.TheVariants as leaf
use Rattle.module_grammar.specs.declared.parts.Leaf.{Leaf}
use Rattle.module_grammar.specs.declared.parts.Part.TheVariants as part
use Rattle.module_grammar.specs.declared.parts.Part.{Part}
use Rattle.module_grammar.specs.declared.places.Placed.{Placed}
use Rattle.predictive.specs.Typed.{take}

-- the kinds; all words and marks that say nothing but themselves are `Alone`
pub data Kind : Type 0 where
  Local : Kind
  Global : Kind
  Debug : Kind
  Label : Kind
  Number : Kind
  Width : Kind
  Truth : Kind
  Bytes : Kind
  Overflow : Kind
  Exact : Kind
  Plain : Kind
  Resize : Kind
  Pred : Kind
  Flag : Kind
  Linkage : Kind
  Extension : Kind
  Holding : Kind
  Star : Kind
  Bracket : Kind
  Brace : Kind
  Null : Kind
  Element : Kind
  BitCast : Kind
  Alone : Kind

abbrev pub kind_at : List Kind → ℕ → Kind
kind_at [] k = Alone
kind_at (x ∷ xs) zero = x
kind_at (x ∷ xs) (suc k) = kind_at xs k

-- kinds by number, from 0, as `kind_of` numbers them
abbrev pub kind : ℕ → Kind
kind k = kind_at (Local ∷ Global ∷ Debug ∷ Label ∷ Number ∷ Width ∷ Truth ∷ Bytes ∷ Overflow ∷ Exact ∷ Plain ∷ Resize ∷ Pred ∷ Flag ∷ Linkage ∷ Extension ∷ Holding ∷ Star ∷ Bracket ∷ Brace ∷ Null ∷ Element ∷ BitCast ∷ []) k

-- a kind's number as the number of a word or mark
abbrev pub alone_number : ℕ → ℕ
alone_number (suc (suc (suc (suc (suc (suc (suc (suc (suc (suc (suc (suc (suc (suc (suc (suc (suc (suc (suc (suc (suc (suc (suc k))))))))))))))))))))))) = k
alone_number _ = 0

-- what a symbol says beside its kind
abbrev pub Says : Kind → Type 0
Says Local = Placed Name
Says Global = Placed Name
Says Debug = Placed Name
Says Label = Placed Name
Says Number = Placed Numeral
Says Width = Placed ℕ
Says Truth = Placed Bool
Says Bytes = Placed (List ℕ)
Says Overflow = OverflowOp
Says Exact = ExactOp
Says Plain = PlainOp
Says Resize = ResizeOp
Says Pred = Predicate
Says Flag = FlagWord
Says Linkage = LinkageWord
Says Extension = ExtensionWord
Says Holding = HoldingWord
Says Star = ℕ
Says Bracket = ℕ
Says Brace = ℕ
Says Null = ℕ
Says Element = ℕ
Says BitCast = ℕ
Says Alone = Unit {0}

-- the symbol of a kind, the kind's number being k, that says this
abbrev pub symbol_by : (x : Kind) → ℕ → Says x → Symbol
symbol_by Local k c = symbol.Local c
symbol_by Global k c = symbol.Global c
symbol_by Debug k c = symbol.Debug c
symbol_by Label k c = symbol.Label c
symbol_by Number k c = symbol.Numeral c
symbol_by Width k c = symbol.Width c
symbol_by Truth k c = symbol.Truth c
symbol_by Bytes k c = symbol.Bytes c
symbol_by Overflow k c = symbol.Overflow c
symbol_by Exact k c = symbol.Exact c
symbol_by Plain k c = symbol.Plain c
symbol_by Resize k c = symbol.Resize c
symbol_by Pred k c = symbol.Pred c
symbol_by Flag k c = symbol.Flag c
symbol_by Linkage k c = symbol.Linkage c
symbol_by Extension k c = symbol.Extension c
symbol_by Holding k c = symbol.Holding c
symbol_by Star k c = symbol.Star c
symbol_by Bracket k c = symbol.Bracket c
symbol_by Brace k c = symbol.Brace c
symbol_by Null k c = symbol.Null c
symbol_by Element k c = symbol.Element c
symbol_by BitCast k c = symbol.BitCast c
symbol_by Alone k c = symbol.Fixed (alone_number k)

-- the leaf that a symbol is, if it says more than its kind
abbrev pub leaf_of : Symbol → Option Leaf
leaf_of (symbol.Local x) = Some (leaf.Local x)
leaf_of (symbol.Global x) = Some (leaf.Global x)
leaf_of (symbol.Debug x) = Some (leaf.Global x)
leaf_of (symbol.Label x) = Some (leaf.Label x)
leaf_of (symbol.Numeral x) = Some (leaf.Number x)
leaf_of (symbol.Width x) = Some (leaf.Width x)
leaf_of (symbol.Truth x) = Some (leaf.Truth x)
leaf_of (symbol.Bytes x) = Some (leaf.Bytes x)
leaf_of (symbol.Overflow x) = Some (leaf.Overflow x)
leaf_of (symbol.Exact x) = Some (leaf.Exact x)
leaf_of (symbol.Plain x) = Some (leaf.Plain x)
leaf_of (symbol.Resize x) = Some (leaf.Resize x)
leaf_of (symbol.Pred x) = Some (leaf.Pred x)
leaf_of (symbol.Flag x) = Some (leaf.Flag x)
leaf_of (symbol.Linkage x) = Some (leaf.Linkage x)
leaf_of (symbol.Extension x) = Some (leaf.Extension x)
leaf_of (symbol.Holding x) = Some (leaf.Holding x)
leaf_of (symbol.Star x) = Some (leaf.At x)
leaf_of (symbol.Bracket x) = Some (leaf.At x)
leaf_of (symbol.Brace x) = Some (leaf.At x)
leaf_of (symbol.Null x) = Some (leaf.At x)
leaf_of (symbol.Element x) = Some (leaf.At x)
leaf_of (symbol.BitCast x) = Some (leaf.At x)
leaf_of (symbol.Fixed k) = None

abbrev pub with_leaf : Option Leaf → List Part → List Part
with_leaf None below = below
with_leaf (Some l) below = part.Leaf l ∷ below

-- a symbol put onto the stack, where it says more than its kind
abbrev pub kept : Symbol → List Part → List Part
kept s below = with_leaf (leaf_of s) below

-- what a symbol of the kind says taken from the stack, and what is then done with it
abbrev pub unkept : (x : Kind) → List Part → (Says x → List Part → List Part) → List Part
unkept Local s then = take the_leaf_local s then
unkept Global s then = take the_leaf_global s then
unkept Debug s then = take the_leaf_global s then
unkept Label s then = take the_leaf_label s then
unkept Number s then = take the_leaf_number s then
unkept Width s then = take the_leaf_width s then
unkept Truth s then = take the_leaf_truth s then
unkept Bytes s then = take the_leaf_bytes s then
unkept Overflow s then = take the_leaf_overflow s then
unkept Exact s then = take the_leaf_exact s then
unkept Plain s then = take the_leaf_plain s then
unkept Resize s then = take the_leaf_resize s then
unkept Pred s then = take the_leaf_pred s then
unkept Flag s then = take the_leaf_flag s then
unkept Linkage s then = take the_leaf_linkage s then
unkept Extension s then = take the_leaf_extension s then
unkept Holding s then = take the_leaf_holding s then
unkept Star s then = take the_leaf_at s then
unkept Bracket s then = take the_leaf_at s then
unkept Brace s then = take the_leaf_at s then
unkept Null s then = take the_leaf_at s then
unkept Element s then = take the_leaf_at s then
unkept BitCast s then = take the_leaf_at s then
unkept Alone s then = then tt s

-- a function of what a symbol says; of nothing, where that is nothing
abbrev pub Given : Kind → Type 0 → Type 0
Given Local R = Placed Name → R
Given Global R = Placed Name → R
Given Debug R = Placed Name → R
Given Label R = Placed Name → R
Given Number R = Placed Numeral → R
Given Width R = Placed ℕ → R
Given Truth R = Placed Bool → R
Given Bytes R = Placed (List ℕ) → R
Given Overflow R = OverflowOp → R
Given Exact R = ExactOp → R
Given Plain R = PlainOp → R
Given Resize R = ResizeOp → R
Given Pred R = Predicate → R
Given Flag R = FlagWord → R
Given Linkage R = LinkageWord → R
Given Extension R = ExtensionWord → R
Given Holding R = HoldingWord → R
Given Star R = ℕ → R
Given Bracket R = ℕ → R
Given Brace R = ℕ → R
Given Null R = ℕ → R
Given Element R = ℕ → R
Given BitCast R = ℕ → R
Given Alone R = R

abbrev pub give : (x : Kind) (R : Type 0) → Given x R → Says x → R
give Local R f c = f c
give Global R f c = f c
give Debug R f c = f c
give Label R f c = f c
give Number R f c = f c
give Width R f c = f c
give Truth R f c = f c
give Bytes R f c = f c
give Overflow R f c = f c
give Exact R f c = f c
give Plain R f c = f c
give Resize R f c = f c
give Pred R f c = f c
give Flag R f c = f c
give Linkage R f c = f c
give Extension R f c = f c
give Holding R f c = f c
give Star R f c = f c
give Bracket R f c = f c
give Brace R f c = f c
give Null R f c = f c
give Element R f c = f c
give BitCast R f c = f c
give Alone R f c = f
