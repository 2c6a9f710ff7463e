-- What is put onto the stack is what is taken from it.
use Rattle.std.proofs.Common.{◌≡◌, ℕ, zero, suc, List, [], true, false, Some, refl}
use Rattle.ir_types.specs.declared.names.Name.{Name}
use Rattle.ir_types.specs.declared.names.Name.TheVariants as name_of
use Rattle.ir_core.specs.declared.operands.Pred.TheVariants.{Eq}
use Rattle.module_grammar.specs.declared.items.HoldingWord.TheVariants.{Constant}
use Rattle.module_grammar.specs.declared.operators.ExactOp.TheVariants.{LShr}
use Rattle.module_grammar.specs.declared.operators.ExtensionWord.TheVariants.{Signed}
use Rattle.module_grammar.specs.declared.operators.FlagWord.TheVariants.{Nuw}
use Rattle.module_grammar.specs.declared.operators.LinkageWord.TheVariants.{Private}
use Rattle.module_grammar.specs.declared.operators.OverflowOp.TheVariants.{Add}
use Rattle.module_grammar.specs.declared.operators.PlainOp.TheVariants.{And}
use Rattle.module_grammar.specs.declared.operators.ResizeOp.TheVariants.{Trunc}
use Rattle.module_grammar.specs.declared.parts.Part.{Part}
use Rattle.module_grammar.specs.declared.places.Placed.{Placed}
use Rattle.module_grammar.specs.Kinds.{Kind, Says, kind, kept, symbol_by, unkept}
use Rattle.module_grammar.specs.Kinds as by_kind
use Rattle.module_grammar.specs.Sorts.{sort, vocabulary, Sort, Holds, part_of, value_of, Module, Item, TypeBody, GlobalBody, GlobalLinkage, Align, DeclaredName, DeclaredParams, MoreDeclared, NextDeclared, Result, Convention, ResultType, Head, HeadEnd, UnnamedAddr, Linkage, Params, MoreParams, Param, ParamName, ParamAttributes, ParamAttribute, FunctionAttributes, FunctionAttribute, AttributeValue, Attached, Attachments, Attachment, Meta, MetaArguments, Bang, Distinct, AnyType, BaseType, Stars, Types, MoreTypes, Called, MoreCalled, NextCalled, FunctionType, GlobalName, Int, Inbounds, Const, MoreConsts, Init, Inits, MoreInits, Value, Operand, Operator, Flags, Exactness, Operation, Attach, AlignBehind, NextAlign, CountBehind, NextCount, IndicesBehind, NextIndex, CallBody, Callee, VoidCallee, VoidCall, CallEnd, Arguments, MoreArguments, Argument, Line, Register, Lines, Expr, Indices, LocalName, Block, BlockLabel, Blocks, Body, Behind, Node, EntriesBehind, NextEntry, Entry, End, Term, Returned, Branch, Cases, Case}
use Rattle.module_grammar.specs.Symbols.{Symbol, kind_of}
use Rattle.module_grammar.specs.Symbols as symbol
use Rattle.predictive.specs.Typed.{IsVocabulary}

content : (s : Symbol) → (c : Says (kind (kind_of s))) × (symbol_by (kind (kind_of s)) (kind_of s) c ≡ s)
content (symbol.Local x) = (x, refl)
content (symbol.Global x) = (x, refl)
content (symbol.Debug x) = (x, refl)
content (symbol.Label x) = (x, refl)
content (symbol.Numeral x) = (x, refl)
content (symbol.Width x) = (x, refl)
content (symbol.Truth x) = (x, refl)
content (symbol.Bytes x) = (x, refl)
content (symbol.Overflow x) = (x, refl)
content (symbol.Exact x) = (x, refl)
content (symbol.Plain x) = (x, refl)
content (symbol.Resize x) = (x, refl)
content (symbol.Pred x) = (x, refl)
content (symbol.Flag x) = (x, refl)
content (symbol.Linkage x) = (x, refl)
content (symbol.Extension x) = (x, refl)
content (symbol.Holding x) = (x, refl)
content (symbol.Star x) = (x, refl)
content (symbol.Bracket x) = (x, refl)
content (symbol.Brace x) = (x, refl)
content (symbol.Null x) = (x, refl)
content (symbol.Element x) = (x, refl)
content (symbol.BitCast x) = (x, refl)
content (symbol.Fixed k) = (tt, refl)

kind_is : (k : ℕ) (c : Says (kind k)) → kind_of (symbol_by (kind k) k c) ≡ k
kind_is zero c = refl
kind_is (suc (zero)) c = refl
kind_is (suc (suc (zero))) c = refl
kind_is (suc (suc (suc (zero)))) c = refl
kind_is (suc (suc (suc (suc (zero))))) c = refl
kind_is (suc (suc (suc (suc (suc (zero)))))) c = refl
kind_is (suc (suc (suc (suc (suc (suc (zero))))))) c = refl
kind_is (suc (suc (suc (suc (suc (suc (suc (zero)))))))) c = refl
kind_is (suc (suc (suc (suc (suc (suc (suc (suc (zero))))))))) c = refl
kind_is (suc (suc (suc (suc (suc (suc (suc (suc (suc (zero)))))))))) c = refl
kind_is (suc (suc (suc (suc (suc (suc (suc (suc (suc (suc (zero))))))))))) c = refl
kind_is (suc (suc (suc (suc (suc (suc (suc (suc (suc (suc (suc (zero)))))))))))) c = refl
kind_is (suc (suc (suc (suc (suc (suc (suc (suc (suc (suc (suc (suc (zero))))))))))))) c = refl
kind_is (suc (suc (suc (suc (suc (suc (suc (suc (suc (suc (suc (suc (suc (zero)))))))))))))) c = refl
kind_is (suc (suc (suc (suc (suc (suc (suc (suc (suc (suc (suc (suc (suc (suc (zero))))))))))))))) c = refl
kind_is (suc (suc (suc (suc (suc (suc (suc (suc (suc (suc (suc (suc (suc (suc (suc (zero)))))))))))))))) c = refl
kind_is (suc (suc (suc (suc (suc (suc (suc (suc (suc (suc (suc (suc (suc (suc (suc (suc (zero))))))))))))))))) c = refl
kind_is (suc (suc (suc (suc (suc (suc (suc (suc (suc (suc (suc (suc (suc (suc (suc (suc (suc (zero)))))))))))))))))) c = refl
kind_is (suc (suc (suc (suc (suc (suc (suc (suc (suc (suc (suc (suc (suc (suc (suc (suc (suc (suc (zero))))))))))))))))))) c = refl
kind_is (suc (suc (suc (suc (suc (suc (suc (suc (suc (suc (suc (suc (suc (suc (suc (suc (suc (suc (suc (zero)))))))))))))))))))) c = refl
kind_is (suc (suc (suc (suc (suc (suc (suc (suc (suc (suc (suc (suc (suc (suc (suc (suc (suc (suc (suc (suc (zero))))))))))))))))))))) c = refl
kind_is (suc (suc (suc (suc (suc (suc (suc (suc (suc (suc (suc (suc (suc (suc (suc (suc (suc (suc (suc (suc (suc (zero)))))))))))))))))))))) c = refl
kind_is (suc (suc (suc (suc (suc (suc (suc (suc (suc (suc (suc (suc (suc (suc (suc (suc (suc (suc (suc (suc (suc (suc (zero))))))))))))))))))))))) c = refl
kind_is (suc (suc (suc (suc (suc (suc (suc (suc (suc (suc (suc (suc (suc (suc (suc (suc (suc (suc (suc (suc (suc (suc (suc (k)))))))))))))))))))))))) c = refl

some_name : Placed Name
some_name = record { what = name_of.Number 0; start = 0; end = 0 }

some : (x : Kind) → Says x
some by_kind.Local = some_name
some by_kind.Global = some_name
some by_kind.Debug = some_name
some by_kind.Label = some_name
some by_kind.Number = record { what = record { negative = false; magnitude = 0 }; start = 0; end = 0 }
some by_kind.Width = record { what = 1; start = 0; end = 0 }
some by_kind.Truth = record { what = true; start = 0; end = 0 }
some by_kind.Bytes = record { what = []; start = 0; end = 0 }
some by_kind.Overflow = Add
some by_kind.Exact = LShr
some by_kind.Plain = And
some by_kind.Resize = Trunc
some by_kind.Pred = Eq
some by_kind.Flag = Nuw
some by_kind.Linkage = Private
some by_kind.Extension = Signed
some by_kind.Holding = Constant
some by_kind.Star = 0
some by_kind.Bracket = 0
some by_kind.Brace = 0
some by_kind.Null = 0
some by_kind.Element = 0
some by_kind.BitCast = 0
some by_kind.Alone = tt

taken : (x : Kind) (k : ℕ) (c : Says x) (s : List Part) (then : Says x → List Part → List Part) → unkept x (kept (symbol_by x k c) s) then ≡ then c s
taken by_kind.Local k c s then = refl
taken by_kind.Global k c s then = refl
taken by_kind.Debug k c s then = refl
taken by_kind.Label k c s then = refl
taken by_kind.Number k c s then = refl
taken by_kind.Width k c s then = refl
taken by_kind.Truth k c s then = refl
taken by_kind.Bytes k c s then = refl
taken by_kind.Overflow k c s then = refl
taken by_kind.Exact k c s then = refl
taken by_kind.Plain k c s then = refl
taken by_kind.Resize k c s then = refl
taken by_kind.Pred k c s then = refl
taken by_kind.Flag k c s then = refl
taken by_kind.Linkage k c s then = refl
taken by_kind.Extension k c s then = refl
taken by_kind.Holding k c s then = refl
taken by_kind.Star k c s then = refl
taken by_kind.Bracket k c s then = refl
taken by_kind.Brace k c s then = refl
taken by_kind.Null k c s then = refl
taken by_kind.Element k c s then = refl
taken by_kind.BitCast k c s then = refl
taken by_kind.Alone k tt s then = refl

back : (x : Sort) (v : Holds x) → value_of x (part_of x v) ≡ Some v
back Module v = refl
back Item v = refl
back TypeBody v = refl
back GlobalBody v = refl
back GlobalLinkage v = refl
back Align v = refl
back DeclaredName v = refl
back DeclaredParams v = refl
back MoreDeclared v = refl
back NextDeclared v = refl
back Result v = refl
back Convention v = refl
back ResultType v = refl
back Head v = refl
back HeadEnd v = refl
back UnnamedAddr v = refl
back Linkage v = refl
back Params v = refl
back MoreParams v = refl
back Param v = refl
back ParamName v = refl
back ParamAttributes v = refl
back ParamAttribute v = refl
back FunctionAttributes v = refl
back FunctionAttribute v = refl
back AttributeValue v = refl
back Attached v = refl
back Attachments v = refl
back Attachment v = refl
back Meta v = refl
back MetaArguments v = refl
back Bang v = refl
back Distinct v = refl
back AnyType v = refl
back BaseType v = refl
back Stars v = refl
back Types v = refl
back MoreTypes v = refl
back Called v = refl
back MoreCalled v = refl
back NextCalled v = refl
back FunctionType v = refl
back GlobalName v = refl
back Int v = refl
back Inbounds v = refl
back Const v = refl
back MoreConsts v = refl
back Init v = refl
back Inits v = refl
back MoreInits v = refl
back Value v = refl
back Operand v = refl
back Operator v = refl
back Flags v = refl
back Exactness v = refl
back Operation v = refl
back Attach v = refl
back AlignBehind v = refl
back NextAlign v = refl
back CountBehind v = refl
back NextCount v = refl
back IndicesBehind v = refl
back NextIndex v = refl
back CallBody v = refl
back Callee v = refl
back VoidCallee v = refl
back VoidCall v = refl
back CallEnd v = refl
back Arguments v = refl
back MoreArguments v = refl
back Argument v = refl
back Line v = refl
back Register v = refl
back Lines v = refl
back Expr v = refl
back Indices v = refl
back LocalName v = refl
back Block v = refl
back BlockLabel v = refl
back Blocks v = refl
back Body v = refl
back Behind v = refl
back Node v = refl
back EntriesBehind v = refl
back NextEntry v = refl
back Entry v = refl
back End v = refl
back Term v = refl
back Returned v = refl
back Branch v = refl
back Cases v = refl
back Case v = refl

pub back_at : (n : ℕ) (v : vocabulary.Value n) → vocabulary.value n (vocabulary.part n v) ≡ Some v
back_at n v = back (sort n) v

pub is_vocabulary : IsVocabulary vocabulary
is_vocabulary = record {
  content = content;
  kind = kind_is;
  some = λ k. some (kind k);
  kept = λ k c s then. taken (kind k) k c s then;
  value = back_at;
}
