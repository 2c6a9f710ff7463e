-- Each printed text is of ASCII bytes alone.
use Rattle.std.proofs.Common.{◌≡◌, ℕ, zero, suc, ◌-◌, ◌/◌, ◌%◌, ◌^◌, ◌<◌, ◌&&◌, Bool, true, false, true≢false, not, cond, List, [], ◌∷◌, ◌++◌, Option, None, Some, codes, map, arith, refl, sym, ap, subst, lit<}
use Rattle.std.specs.Prelude.{◌==◌, nat_le, nat_lt}
use Rattle.std.proofs.lemmas.Bool.Decides.{nat_tests}
use Rattle.std.proofs.lemmas.Str.{IsAscii-append}
use Rattle.std.proofs.lemmas.Str.Ascii.{IsAscii-nil, IsAscii-cons}
use Rattle.std.specs.Str.{IsAscii}
use Rattle.std.specs.List.{AllByRecursion, list_all, flat_map}
use Rattle.std.specs.Fmt.{digits_onto, digits, decimal, digit_glyph}
use Rattle.ir_types.specs.declared.names.Name.{Name}
use Rattle.ir_types.specs.declared.names.Name.TheVariants.{Text, Number}
use Rattle.ir_types.specs.declared.names.Sigil.TheVariants.{Global}
use Rattle.ir_types.specs.declared.ty.Ty.{Ty, Int}
use Rattle.ir_types.proofs.Induction as fold
use Rattle.ir_core.specs.declared.operands.Const.{Const}
use Rattle.ir_core.proofs.Constants as constant
use Rattle.ir_core.proofs.Constants.{EachOf}
use Rattle.ir_core.specs.declared.operands.Atom.{Atom}
use Rattle.ir_core.specs.declared.operands.Atom.TheVariants.{Constant, Register}
use Rattle.ir_core.specs.declared.operands.Operand.{Operand}
use Rattle.ir_core.specs.declared.operands.BinOp.{BinOp}
use Rattle.ir_core.specs.declared.operands.BinOp.TheVariants.{Add, Sub, Mul, Shl, UDiv, SDiv, LShr, AShr, URem, SRem, And, Or, Xor}
use Rattle.ir_core.specs.declared.operands.Pred.{Pred}
use Rattle.ir_core.specs.declared.operands.Pred.TheVariants.{Eq, Ne, Ugt, Uge, Ult, Ule, Sgt, Sge, Slt, Sle}
use Rattle.ir_core.specs.declared.operands.CastOp.{CastOp}
use Rattle.ir_core.specs.declared.operands.CastOp.TheVariants.{ZExt, SExt, Trunc, BitCast}
use Rattle.ir_core.specs.declared.operands.Flags.{Flags}
use Rattle.ir_core.specs.declared.expressions.Reg.{Reg}
use Rattle.ir_core.specs.declared.expressions.Reg.TheVariants.{Now, Old, Ghost}
use Rattle.ir_core.specs.declared.expressions.Expr.{Expr}
use Rattle.ir_core.specs.declared.expressions.Expr.TheVariants as expr
use Rattle.ir_core.specs.Names.{is_name_byte, is_plain}
use Rattle.ir_core.specs.Words.{void_word, false_word, true_word, undef_word, null_word, op_word, nuw_word, nsw_word, exact_word, icmp_word, pred_word, cast_word, select_word, getelementptr_word, inbounds_word, load_word, align_word}
use Rattle.ir_printer.specs.ExpressionPrinter.Printed.{hexadecimal_digit, escaped, quoted, name_text, printed_name, printed_local, printed_type, printed_parts, listed, struct_text, type_text, is_negative, signed_text, number_text, element_head, typed_text, further_text, constant_text, constant_parts, printed_constant, printed_register, printed_atom, printed_operand, spaced, printed_op, printed_flag, printed_flags, printed_operands, further_operands, printed_align, printed_expr}
use Rattle.ir_printer.proofs.ExpressionPrinter.ConstantTexts.{constants_by_parts}
use Rattle.ir_printer.proofs.ExpressionPrinter.TypeTexts.{types_by_parts}

record Ascii (bs : List ℕ) : Type 0 where
  bytes : IsAscii bs

empty : Ascii []
empty = record { bytes = IsAscii-nil }

begun : (b : ℕ) (bs : List ℕ) → b < 128 → Ascii bs → Ascii (b ∷ bs)
begun b bs h a = record { bytes = IsAscii-cons b bs h a.bytes }

append : (xs ys : List ℕ) → Ascii xs → Ascii ys → Ascii (xs ++ ys)
append xs ys a b = record { bytes = IsAscii-append xs ys a.bytes b.bytes }

both : (a b : Bool) → (a && b) ≡ true → (a ≡ true) × (b ≡ true)
both true true h = (refl, refl)
both true false h = absurd (true≢false (sym h))
both false b h = absurd (true≢false (sym h))

-- a choice between two such texts is one
of_choice : (b : Bool) (x y : List ℕ) → (b ≡ true → Ascii x) → Ascii y → Ascii (cond b x y)
of_choice true x y h k = h refl
of_choice false x y h k = k

small_by_test : (b : ℕ) → nat_lt b 128 ≡ true → b < 128
small_by_test b h = grind (arith, nat_tests)

-- a list of which a test finds each byte small
of_small : (bs : List ℕ) → list_all (λ b. nat_lt b 128) bs ≡ true → Ascii bs
of_small [] h = empty
of_small (b ∷ bs) h = let p = both (nat_lt b 128) (list_all (λ c. nat_lt c 128) bs) h in begun b bs (small_by_test b p.0) (of_small bs p.1)

glyph_is_ascii : (upper : Bool) (d : ℕ) → d < 16 → digit_glyph upper d < 128
glyph_is_ascii true d h = grind (arith, nat_tests)
glyph_is_ascii false d h = grind (arith, nat_tests)

of_digits_onto : (k n : ℕ) (acc : List ℕ) → Ascii acc → Ascii (digits_onto k 10 false n acc)
of_digits_onto zero n acc h = h
of_digits_onto (suc k) n acc h =
    let small : n % 10 < 16 = omega arith in
    let last : Ascii (digit_glyph false (n % 10) ∷ acc) = begun (digit_glyph false (n % 10)) acc (glyph_is_ascii false (n % 10) small) h in
    of_choice (n / 10 == 0) _ _ (λ _. last) (of_digits_onto k (n / 10) (digit_glyph false (n % 10) ∷ acc) last)

of_decimal : (n : ℕ) → Ascii (decimal n)
unfolding digits
of_decimal n = of_digits_onto 64 n [] empty

of_name_byte : (b : ℕ) → is_name_byte b ≡ true → b < 128
of_name_byte b h = grind (arith, nat_tests)

of_name_bytes : (bs : List ℕ) → list_all is_name_byte bs ≡ true → Ascii bs
of_name_bytes [] h = empty
of_name_bytes (b ∷ bs) h = let p = both (is_name_byte b) (list_all is_name_byte bs) h in begun b bs (of_name_byte b p.0) (of_name_bytes bs p.1)

hexadecimal_is_ascii : (n : ℕ) → hexadecimal_digit n < 128
hexadecimal_is_ascii n = let small : n % 16 < 16 = omega arith in glyph_is_ascii true (n % 16) small

shown_is_ascii : (b : ℕ) → (nat_le 32 b && nat_le b 126 && not (b == 34) && not (b == 92)) ≡ true → b < 128
shown_is_ascii b h = grind (arith, nat_tests)

of_escaped : (b : ℕ) → Ascii (escaped b)
of_escaped b =
    let rest = begun (hexadecimal_digit (b / 16)) (hexadecimal_digit b ∷ []) (hexadecimal_is_ascii (b / 16)) (begun (hexadecimal_digit b) [] (hexadecimal_is_ascii b) empty) in
    of_choice (nat_le 32 b && nat_le b 126 && not (b == 34) && not (b == 92)) (b ∷ []) _ (λ h. begun b [] (shown_is_ascii b h) empty) (begun 92 _ (lit< tt) rest)

of_all_escaped : (bs : List ℕ) → Ascii (flat_map escaped bs)
of_all_escaped [] = empty
of_all_escaped (b ∷ bs) = append (escaped b) (flat_map escaped bs) (of_escaped b) (of_all_escaped bs)

of_quoted : (bs : List ℕ) → Ascii (quoted bs)
of_quoted bs = begun 34 _ (lit< tt) (append (flat_map escaped bs) (34 ∷ []) (of_all_escaped bs) (begun 34 [] (lit< tt) empty))

of_name_text : (name : Name) → Ascii (name_text name)
of_name_text (Text bs) = of_choice (is_plain bs) bs (quoted bs) (λ h. of_name_bytes bs (both _ (list_all is_name_byte bs) h).1) (of_quoted bs)
of_name_text (Number n) = of_decimal n

of_local : (name : Name) → Ascii (printed_local name)
of_local name = begun 37 (name_text name) (lit< tt) (of_name_text name)

of_listed : (before : List ℕ) (ts : List Ty) → Ascii before → AllByRecursion (λ t. Ascii (printed_parts t)) ts → Ascii (listed before (map printed_parts ts))
of_listed before [] first all = empty
of_listed before (t ∷ ts) first all =
    append (before ++ printed_parts t) (listed (codes ", ") (map printed_parts ts)) (append before (printed_parts t) first all.0) (of_listed (codes ", ") ts (of_small (codes ", ") refl) all.1)

of_struct : (ts : List Ty) → AllByRecursion (λ t. Ascii (printed_parts t)) ts → Ascii (struct_text (map printed_parts ts))
of_struct [] all = of_small (codes "{}") refl
of_struct (t ∷ ts) all = append _ (codes " }") (of_listed (codes "{ ") (t ∷ ts) (of_small (codes "{ ") refl) all) (of_small (codes " }") refl)

of_array : (count : ℕ) (element : List ℕ) → Ascii element → Ascii (91 ∷ decimal count ++ codes " x " ++ element ++ 93 ∷ [])
of_array count element ascii =
    begun 91 _ (lit< tt) (append (decimal count ++ codes " x " ++ element) (93 ∷ []) (append (decimal count ++ codes " x ") element (append (decimal count) (codes " x ") (of_decimal count) (of_small (codes " x ") refl)) ascii) (begun 93 [] (lit< tt) empty))

of_parts : (t : Ty) → Ascii (printed_parts t)
of_parts = fold.by_parts (λ t. Ascii (printed_parts t))
    (λ width. subst Ascii (sym (fold.at_int (List ℕ) type_text width)) (begun 105 (decimal width) (lit< tt) (of_decimal width)))
    (λ t ascii. subst Ascii (sym (fold.at_ptr (List ℕ) type_text t)) (append (printed_parts t) (42 ∷ []) ascii (begun 42 [] (lit< tt) empty)))
    (λ count t ascii. subst Ascii (sym (fold.at_array (List ℕ) type_text count t)) (of_array count (printed_parts t) ascii))
    (λ ts all. subst Ascii (sym (fold.at_struct (List ℕ) type_text ts)) (of_struct ts all))
    (λ name. subst Ascii (sym (fold.at_named (List ℕ) type_text name)) (of_local name))
    (subst Ascii (sym (fold.at_void (List ℕ) type_text)) (of_small (void_word) refl))

of_type : (ty : Ty) → Ascii (printed_type ty)
of_type t = subst Ascii (sym (types_by_parts t)) (of_parts t)

of_false : Ascii (false_word)
of_false = of_small (false_word) refl

of_true : Ascii (true_word)
of_true = of_small (true_word) refl

of_signed : (width n : ℕ) → Ascii (signed_text width n)
of_signed width n = of_choice (is_negative width n) _ _ (λ _. begun 45 _ (lit< tt) (of_decimal (2 ^ width - n))) (of_decimal n)

of_number : (ty : Ty) (n : ℕ) → Ascii (number_text ty n)
of_number (Int width) n = of_choice (width == 1) _ _ (λ _. of_choice (n == 0) _ _ (λ _. of_false) of_true) (of_signed width n)
of_number t n = of_decimal n

of_spaced : (word : List ℕ) → list_all (λ b. nat_lt b 128) word ≡ true → Ascii (spaced word)
of_spaced word small = append word (32 ∷ []) (of_small word small) (of_small (32 ∷ []) refl)

of_flag : (set : Bool) (word : List ℕ) → Ascii (spaced word) → Ascii (printed_flag set word)
of_flag set word h = of_choice set (spaced word) [] (λ _. h) empty

of_global : (name : Name) → Ascii (printed_name Global name)
of_global name = begun 64 (name_text name) (lit< tt) (of_name_text name)

of_comma : Ascii (codes ", ")
of_comma = of_small (codes ", ") refl

of_to : Ascii (codes " to ")
of_to = of_small (codes " to ") refl

-- the text of a constant at each type
abbrev OfConstant : Const → Type 0
OfConstant c = (t : Ty) → Ascii (constant_parts c t)

-- what a constant is of the texts of those in it
of_level : (c : Const) (text : Ty → List ℕ) → constant_parts c ≡ text → ((t : Ty) → Ascii (text t)) → OfConstant c
of_level c text e ascii t = subst Ascii (sym (ap (λ (f : Ty → List ℕ). f t) e)) (ascii t)

of_typed : (c : Ty × Const) → OfConstant c.1 → Ascii (typed_text (c.0, constant_parts c.1))
of_typed c ascii = append (printed_type c.0) (32 ∷ constant_parts c.1 c.0) (of_type c.0) (begun 32 _ (lit< tt) (ascii c.0))

all_typed : (cs : List (Ty × Const)) → EachOf OfConstant cs → Ascii (flat_map typed_text (map (λ c. (c.0, constant_parts c.1)) cs))
all_typed [] all = empty
all_typed (c ∷ cs) all = append (typed_text (c.0, constant_parts c.1)) _ (of_typed c all.0) (all_typed cs all.1)

all_further : (cs : List (Ty × Const)) → EachOf OfConstant cs → Ascii (flat_map further_text (map (λ c. (c.0, constant_parts c.1)) cs))
all_further [] all = empty
all_further (c ∷ cs) all = append (further_text (c.0, constant_parts c.1)) _ (append (codes ", ") _ of_comma (of_typed c all.0)) (all_further cs all.1)

of_head : (inbounds : Bool) (of : Ty) → Ascii (element_head inbounds of)
of_head inbounds of =
    append (spaced getelementptr_word ++ printed_flag inbounds inbounds_word) (40 ∷ printed_type of)
    (append (spaced getelementptr_word) (printed_flag inbounds inbounds_word) (of_spaced getelementptr_word refl) (of_flag inbounds inbounds_word (of_spaced inbounds_word refl)))
    (begun 40 (printed_type of) (lit< tt) (of_type of))

of_element : (inbounds : Bool) (of : Ty) (cs : List (Ty × Const)) → EachOf OfConstant cs
    → Ascii (element_head inbounds of ++ flat_map further_text (map (λ c. (c.0, constant_parts c.1)) cs) ++ 41 ∷ [])
of_element inbounds of cs all =
    append _ (41 ∷ []) (append (element_head inbounds of) _ (of_head inbounds of) (all_further cs all)) (begun 41 [] (lit< tt) empty)

of_bitcast : (to : Ty) (cs : List (Ty × Const)) → EachOf OfConstant cs
    → Ascii (codes "bitcast (" ++ flat_map typed_text (map (λ c. (c.0, constant_parts c.1)) cs) ++ codes " to " ++ printed_type to ++ 41 ∷ [])
of_bitcast to cs all =
    append _ (41 ∷ [])
    (append _ (printed_type to)
    (append _ (codes " to ") (append (codes "bitcast (") _ (of_small (codes "bitcast (") refl) (all_typed cs all)) of_to)
    (of_type to)) (begun 41 [] (lit< tt) empty)

of_constant_parts : (c : Const) → OfConstant c
of_constant_parts = constant.by_parts OfConstant
    (λ n. of_level _ _ (constant.at_number (Ty → List ℕ) constant_text n) (λ t. of_number t n))
    (of_level _ _ (constant.at_undef (Ty → List ℕ) constant_text) (λ t. of_small undef_word refl))
    (of_level _ _ (constant.at_null (Ty → List ℕ) constant_text) (λ t. of_small null_word refl))
    (λ x. of_level _ _ (constant.at_global (Ty → List ℕ) constant_text x) (λ t. of_global x))
    (λ inbounds of cs all. of_level _ _ (constant.at_element (Ty → List ℕ) constant_text inbounds of cs) (λ t. of_element inbounds of cs all))
    (λ to cs all. of_level _ _ (constant.at_cast (Ty → List ℕ) constant_text to cs) (λ t. of_bitcast to cs all))

of_constant : (ty : Ty) (c : Const) → Ascii (printed_constant ty c)
of_constant ty c = subst Ascii (sym (constants_by_parts ty c)) (of_constant_parts c ty)

of_old : Ascii (codes "old ")
of_old = of_small (codes "old ") refl

of_ghost : Ascii (codes "ghost ")
of_ghost = of_small (codes "ghost ") refl

of_register : (r : Reg) → Ascii (printed_register r)
of_register (Now name) = of_local name
of_register (Old name) = append (codes "old ") (printed_local name) of_old (of_local name)
of_register (Ghost name) = append (codes "ghost ") (printed_local name) of_ghost (of_local name)

of_op : (op : BinOp) → Ascii (printed_op op)
of_op op = of_spaced (op_word op) (small op)
  where
    small : (op : BinOp) → list_all (λ b. nat_lt b 128) (op_word op) ≡ true
    small Add = refl
    small Sub = refl
    small Mul = refl
    small Shl = refl
    small UDiv = refl
    small SDiv = refl
    small LShr = refl
    small AShr = refl
    small URem = refl
    small SRem = refl
    small And = refl
    small Or = refl
    small Xor = refl

of_pred : (pred : Pred) → Ascii (spaced (pred_word pred))
of_pred pred = of_spaced (pred_word pred) (small pred)
  where
    small : (pred : Pred) → list_all (λ b. nat_lt b 128) (pred_word pred) ≡ true
    small Eq = refl
    small Ne = refl
    small Ugt = refl
    small Uge = refl
    small Ult = refl
    small Ule = refl
    small Sgt = refl
    small Sge = refl
    small Slt = refl
    small Sle = refl

of_cast : (op : CastOp) → Ascii (spaced (cast_word op))
of_cast op = of_spaced (cast_word op) (small op)
  where
    small : (op : CastOp) → list_all (λ b. nat_lt b 128) (cast_word op) ≡ true
    small ZExt = refl
    small SExt = refl
    small Trunc = refl
    small BitCast = refl

of_nuw : Ascii (spaced nuw_word)
of_nuw = of_spaced nuw_word refl

of_nsw : Ascii (spaced nsw_word)
of_nsw = of_spaced nsw_word refl

of_exact : Ascii (spaced exact_word)
of_exact = of_spaced exact_word refl

of_flags : (flags : Flags) → Ascii (printed_flags flags)
of_flags flags =
    append (printed_flag flags.nuw nuw_word) _ (of_flag flags.nuw nuw_word of_nuw)
    (append (printed_flag flags.nsw nsw_word) (printed_flag flags.exact exact_word) (of_flag flags.nsw nsw_word of_nsw) (of_flag flags.exact exact_word of_exact))

-- over registers of which each is printed so
module _ {R : Type 0} (register : R → List ℕ) (of : (r : R) → Ascii (register r)) where
  of_atom : (ty : Ty) (atom : Atom R) → Ascii (printed_atom register ty atom)
  of_atom ty (Constant c) = of_constant ty c
  of_atom ty (Register r) = of r

  of_operand : (o : Operand R) → Ascii (printed_operand register o)
  of_operand o = append (printed_type o.ty) (32 ∷ printed_atom register o.ty o.atom) (of_type o.ty) (begun 32 _ (lit< tt) (of_atom o.ty o.atom))

  of_operands : (ty : Ty) (a b : Atom R) → Ascii (printed_operands register ty a b)
  of_operands ty a b = append (printed_type ty) _ (of_type ty) (begun 32 _ (lit< tt)
      (append (printed_atom register ty a) _ (of_atom ty a) (append (codes ", ") _ of_comma (of_atom ty b))))

  of_further : (os : List (Operand R)) → Ascii (further_operands register os)
  of_further [] = empty
  of_further (o ∷ os) = append (codes ", " ++ printed_operand register o) _ (append (codes ", ") _ of_comma (of_operand o)) (of_further os)

  of_align : (align : Option ℕ) → Ascii (printed_align align)
  of_align None = empty
  of_align (Some n) = append (codes ", ") _ of_comma (append (spaced align_word) (decimal n) (of_spaced align_word refl) (of_decimal n))

  of_text : (e : Expr R) → Ascii (printed_expr register e)
  of_text (expr.Plain operand) = of_operand operand
  of_text (expr.Binary b) = append (printed_op b.op) _ (of_op b.op) (append (printed_flags b.flags) _ (of_flags b.flags) (of_operands b.ty b.left b.right))
  of_text (expr.Icmp c) =
      append (spaced icmp_word) _ (of_spaced icmp_word refl) (append (spaced (pred_word c.pred)) _ (of_pred c.pred) (of_operands c.ty c.left c.right))
  of_text (expr.Cast c) =
      append (spaced (cast_word c.op)) _ (of_cast c.op)
      (append (printed_operand register c.operand) _ (of_operand c.operand) (append (codes " to ") _ of_to (of_type c.to)))
  of_text (expr.Select s) =
      append (spaced select_word) _ (of_spaced select_word refl)
      (append (printed_operand register s.condition) _ (of_operand s.condition)
      (append (codes ", ") _ of_comma
      (append (printed_operand register s.left) _ (of_operand s.left)
      (append (codes ", ") _ of_comma (of_operand s.right)))))
  of_text (expr.Element e) =
      append (spaced getelementptr_word) _ (of_spaced getelementptr_word refl)
      (append (printed_flag e.inbounds inbounds_word) _ (of_flag e.inbounds inbounds_word (of_spaced inbounds_word refl))
      (append (printed_type e.of) _ (of_type e.of) (of_further (e.base ∷ e.indices))))
  of_text (expr.Load l) =
      append (spaced load_word) _ (of_spaced load_word refl)
      (append (printed_type l.of) _ (of_type l.of)
      (append (codes ", ") _ of_comma
      (append (printed_operand register l.pointer) _ (of_operand l.pointer) (of_align l.align))))

pub logic_is_ascii : (e : Expr Reg) → IsAscii (printed_expr printed_register e)
logic_is_ascii e = (of_text printed_register of_register e).bytes
