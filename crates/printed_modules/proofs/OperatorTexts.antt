-- Each operator with flags that it may have is one that the grammar writes.
use Rattle.std.proofs.Common.{◌≡◌, ◌&&◌, ◌||◌, Bool, true, false, true≢false, not, List, [], ◌∷◌, ◌++◌, map, if◌then◌else◌, refl, sym}
use Rattle.std.proofs.lemmas.Bool.{and_parts}
use Rattle.ir_core.specs.declared.operands.BinOp.{BinOp}
use Rattle.ir_core.specs.declared.operands.BinOp.TheVariants.{Add, Sub, Mul, Shl, UDiv, SDiv, LShr, AShr, URem, SRem, And, Or, Xor}
use Rattle.ir_core.specs.declared.operands.Flags.{Flags}
use Rattle.ir_core.specs.Ranges.{may_have}
use Rattle.ir_core.specs.Words as words
use Rattle.module_grammar.specs.declared.operators.ExactOp.{ExactOp}
use Rattle.module_grammar.specs.declared.operators.ExactOp.TheVariants as exact
use Rattle.module_grammar.specs.declared.operators.FlagWord.{FlagWord}
use Rattle.module_grammar.specs.declared.operators.FlagWord.TheVariants.{Nuw, Nsw}
use Rattle.module_grammar.specs.declared.operators.OverflowOp.{OverflowOp}
use Rattle.module_grammar.specs.declared.operators.OverflowOp.TheVariants as overflow
use Rattle.module_grammar.specs.declared.operators.PlainOp.{PlainOp}
use Rattle.module_grammar.specs.declared.operators.PlainOp.TheVariants as flagless
use Rattle.module_grammar.specs.declared.lines.OperatorText.{OperatorText}
use Rattle.module_grammar.specs.declared.lines.OperatorText.TheVariants as operators
use Rattle.module_grammar.specs.declared.words.KeyWord.TheVariants as key
use Rattle.module_grammar.specs.declared.words.Language.{Language}
use Rattle.module_grammar.specs.Operators.{exact_op, operator_op, overflow_op, plain_op}
use Rattle.module_grammar.specs.Symbols.{Flag}
use Rattle.module_grammar.specs.Lines as write
use Rattle.named_modules.specs.Lines.{flags_of}
use Rattle.printed_tokens.proofs.Places.{AreSymbols}
use Rattle.printed_tokens.proofs.TokenWords as kinds
use Rattle.printed_tokens.proofs.WordSymbols.{at_any, exact_said, flag_said, key_said, overflow_said, plain_said}

-- what is written of an operator and its flags
pub record IsOperator (language : Language) (op : BinOp) (flags : Flags) : Type 0 where
  pub text : OperatorText
  pub op_is : op ≡ operator_op text
  pub flags_are : flags ≡ flags_of text
  pub symbols : AreSymbols language (kinds.word (words.op_word op) ∷ kinds.flags flags) (write.operator text)

abbrev of : Bool → Bool → Bool → Flags
of nuw nsw exact = record { nuw = nuw; nsw = nsw; exact = exact }

-- ---- which flags there are

-- a flag that may not be there is not there
off : (b : Bool) → (not b || false) ≡ true → b ≡ false
off false may = refl
off true may = sym may

not_exact : (nuw nsw exact : Bool) → ((not nuw || true) && (not nsw || true) && (not exact || false)) ≡ true → exact ≡ false
not_exact nuw nsw exact may = off exact (and_parts _ _ may).1

neither : (nuw nsw may_exact : Bool) → ((not nuw || false) && (not nsw || false) && may_exact) ≡ true → (nuw ≡ false) × (nsw ≡ false)
neither nuw nsw may_exact may =
    let both = and_parts _ _ (and_parts _ may_exact may).0 in
    (off nuw both.0, off nsw both.1)

-- ---- add, sub, mul, shl

abbrev flag_words : Bool → Bool → List FlagWord
flag_words nuw nsw = (if nuw then Nuw ∷ [] else []) ++ (if nsw then Nsw ∷ [] else [])

flag_words_mean : (op : OverflowOp) (nuw nsw : Bool) → of nuw nsw false ≡ flags_of (operators.Overflow op (flag_words nuw nsw))
flag_words_mean op true true = refl
flag_words_mean op true false = refl
flag_words_mean op false true = refl
flag_words_mean op false false = refl

flag_symbols : (language : Language) (nuw nsw : Bool) → AreSymbols language (kinds.flags (of nuw nsw false)) (map Flag (flag_words nuw nsw))
flag_symbols language true true = (at_any language words.nuw_word _ (flag_said language Nuw), (at_any language words.nsw_word _ (flag_said language Nsw), tt))
flag_symbols language true false = (at_any language words.nuw_word _ (flag_said language Nuw), tt)
flag_symbols language false true = (at_any language words.nsw_word _ (flag_said language Nsw), tt)
flag_symbols language false false = tt

of_overflow : (language : Language) (op : OverflowOp) (nuw nsw exact : Bool) → exact ≡ false → IsOperator language (overflow_op op) (of nuw nsw exact)
of_overflow language op nuw nsw true unset = absurd (true≢false unset)
of_overflow language op nuw nsw false unset = record {
  text = operators.Overflow op (flag_words nuw nsw);
  op_is = refl;
  flags_are = flag_words_mean op nuw nsw;
  symbols = (at_any language (words.op_word (overflow_op op)) _ (overflow_said language op), flag_symbols language nuw nsw);
}

-- ---- udiv, sdiv, lshr, ashr

exact_symbols : (language : Language) (exact : Bool) → AreSymbols language (kinds.flags (of false false exact)) (write.exactness exact)
exact_symbols language true = (at_any language words.exact_word _ (key_said language key.Exact tt), tt)
exact_symbols language false = tt

of_exact : (language : Language) (op : ExactOp) (nuw nsw exact : Bool) → (nuw ≡ false) × (nsw ≡ false) → IsOperator language (exact_op op) (of nuw nsw exact)
of_exact language op true nsw exact unset = absurd (true≢false unset.0)
of_exact language op false true exact unset = absurd (true≢false unset.1)
of_exact language op false false exact unset = record {
  text = operators.Exact op exact;
  op_is = refl;
  flags_are = refl;
  symbols = (at_any language (words.op_word (exact_op op)) _ (exact_said language op), exact_symbols language exact);
}

-- ---- urem, srem, and, or, xor

of_plain : (language : Language) (op : PlainOp) (nuw nsw exact : Bool) → (nuw ≡ false) × (nsw ≡ false) → exact ≡ false → IsOperator language (plain_op op) (of nuw nsw exact)
of_plain language op true nsw exact unset inexact = absurd (true≢false unset.0)
of_plain language op false true exact unset inexact = absurd (true≢false unset.1)
of_plain language op false false true unset inexact = absurd (true≢false inexact)
of_plain language op false false false unset inexact = record {
  text = operators.Plain op;
  op_is = refl;
  flags_are = refl;
  symbols = (at_any language (words.op_word (plain_op op)) _ (plain_said language op), tt);
}

overflow_may : (language : Language) (op : OverflowOp) (f : Flags) → ((not f.nuw || true) && (not f.nsw || true) && (not f.exact || false)) ≡ true → IsOperator language (overflow_op op) f
overflow_may language op f may = of_overflow language op f.nuw f.nsw f.exact (not_exact f.nuw f.nsw f.exact may)

exact_may : (language : Language) (op : ExactOp) (f : Flags) → ((not f.nuw || false) && (not f.nsw || false) && (not f.exact || true)) ≡ true → IsOperator language (exact_op op) f
exact_may language op f may = of_exact language op f.nuw f.nsw f.exact (neither f.nuw f.nsw (not f.exact || true) may)

plain_may : (language : Language) (op : PlainOp) (f : Flags) → ((not f.nuw || false) && (not f.nsw || false) && (not f.exact || false)) ≡ true → IsOperator language (plain_op op) f
plain_may language op f may =
    of_plain language op f.nuw f.nsw f.exact (neither f.nuw f.nsw (not f.exact || false) may) (off f.exact (and_parts _ _ may).1)

pub is_operator : (language : Language) (op : BinOp) (f : Flags) → may_have op f ≡ true → IsOperator language op f
is_operator language Add f may = overflow_may language overflow.Add f may
is_operator language Sub f may = overflow_may language overflow.Sub f may
is_operator language Mul f may = overflow_may language overflow.Mul f may
is_operator language Shl f may = overflow_may language overflow.Shl f may
is_operator language UDiv f may = exact_may language exact.UDiv f may
is_operator language SDiv f may = exact_may language exact.SDiv f may
is_operator language LShr f may = exact_may language exact.LShr f may
is_operator language AShr f may = exact_may language exact.AShr f may
is_operator language URem f may = plain_may language flagless.URem f may
is_operator language SRem f may = plain_may language flagless.SRem f may
is_operator language And f may = plain_may language flagless.And f may
is_operator language Or f may = plain_may language flagless.Or f may
is_operator language Xor f may = plain_may language flagless.Xor f may
