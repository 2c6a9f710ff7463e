-- The text of each kind of initialiser.
use Rattle.std.proofs.Common.{◌≡◌, ◌∙◌, ◌++◌, ◌∷◌, [], ◌≤◌, ℕ, List, codes, length, map, drop, refl, sym, ap, append-nil, IsTrue}
use Rattle.std.proofs.lemmas.List.{at_drop_all}
use Rattle.ir_types.specs.declared.ty.Ty.{Ty}
use Rattle.ir_core.specs.declared.operands.Const.{Const}
use Rattle.ir_core.specs.declared.modules.Init.{Init, Const as Held, Zero, Bytes, Array, Struct, fold-roll-Init}
use Rattle.ir_core.specs.declared.modules.Init.TheOpen as init
use Rattle.ir_core.specs.declared.modules.Init.TheViews.{rolls-Const, rolls-Zero, rolls-Bytes, rolls-Array, rolls-Struct}
use Rattle.ir_printer.specs.ExpressionPrinter.Printed.{listed, printed_constant, printed_type, quoted, struct_text, typed_text}
use Rattle.ir_printer.specs.declared.sink.Sink.{Sink}
use Rattle.ir_printer.specs.Told.{IsTold}
use Rattle.ir_printer.proofs.Told.{told_as, told_then}
use Rattle.ir_printer.specs.Globals.{array_text, init_text, printed_init, struct_end}

-- one behind its type
abbrev pub typed_init : Ty × Init → List ℕ
typed_init e = printed_type e.0 ++ 32 ∷ printed_init e.1 e.0

each_typed : (es : List (Ty × Init)) → map typed_text (map (λ e. (e.0, printed_init e.1)) es) ≡ map typed_init es
each_typed [] = refl
each_typed (e ∷ es) = ap (λ texts. typed_init e ∷ texts) (each_typed es)

-- ---- each kind

pub at_const : (t : Ty) (c : Const) → printed_init (Held c) t ≡ printed_constant t c
at_const t c = ap (λ (f : Ty → List ℕ). f t) (ap printed_init (sym (rolls-Const c)) ∙ fold-roll-Init (Ty → List ℕ) init_text (init.Const c))

pub at_zero : (t : Ty) → printed_init Zero t ≡ codes "zeroinitializer"
at_zero t = ap (λ (f : Ty → List ℕ). f t) (ap printed_init (sym rolls-Zero) ∙ fold-roll-Init (Ty → List ℕ) init_text init.Zero)

pub at_bytes : (t : Ty) (bytes : List ℕ) → printed_init (Bytes bytes) t ≡ 99 ∷ quoted bytes
at_bytes t bytes = ap (λ (f : Ty → List ℕ). f t) (ap printed_init (sym (rolls-Bytes bytes)) ∙ fold-roll-Init (Ty → List ℕ) init_text (init.Bytes bytes))

pub at_array : (t : Ty) (es : List (Ty × Init)) → printed_init (Array es) t ≡ array_text (map typed_init es)
at_array t es =
    ap (λ (f : Ty → List ℕ). f t) (ap printed_init (sym (rolls-Array es)) ∙ fold-roll-Init (Ty → List ℕ) init_text (init.Array es))
    ∙ ap array_text (each_typed es)

pub at_struct : (t : Ty) (es : List (Ty × Init)) → printed_init (Struct es) t ≡ struct_text (map typed_init es)
at_struct t es =
    ap (λ (f : Ty → List ℕ). f t) (ap printed_init (sym (rolls-Struct es)) ∙ fold-roll-Init (Ty → List ℕ) init_text (init.Struct es))
    ∙ ap struct_text (each_typed es)

-- ---- lists, of which each piece was printed

ended : (es : List (Ty × Init)) → listed (codes "{ ") (map typed_init es) ++ struct_end es ≡ struct_text (map typed_init es)
ended [] = refl
ended (e ∷ es) = refl

-- what a loop has written of the elements, where none is left
none_left : (mid body : Sink) (before all : List ℕ) (es : List (Ty × Init)) (i : ℕ)
    → (IsTrue body.whole → IsTrue mid.whole × (body.bytes.items ++ listed before (map typed_init (drop i es)) ≡ mid.bytes.items ++ all))
    → length es ≤ i
    → IsTold mid body all
none_left mid body before all es i texts over whole =
    let t = texts whole in
    (t.0, sym (at_drop_all (λ rest. body.bytes.items ++ listed before (map typed_init rest)) es i over ∙ append-nil body.bytes.items) ∙ t.1)

pub array_told : (old mid body new : Sink) (before : List ℕ) (t : Ty) (x : Init) (es : List (Ty × Init)) (i : ℕ)
    → x ≡ Array es
    → IsTold old mid (91 ∷ [])
    → (IsTrue body.whole → IsTrue mid.whole × (body.bytes.items ++ listed before (map typed_init (drop i es)) ≡ mid.bytes.items ++ listed [] (map typed_init es)))
    → length es ≤ i
    → IsTold body new (93 ∷ [])
    → IsTold old new (printed_init x t)
array_told old mid body new before t x es i is head texts over last =
    told_as old new _ _ (sym (at_array t es) ∙ ap (λ c. printed_init c t) (sym is))
    (told_then old mid new _ _ head (told_then mid body new _ _ (none_left mid body before _ es i texts over) last))

pub struct_told : (old body new : Sink) (before : List ℕ) (t : Ty) (x : Init) (es : List (Ty × Init)) (i : ℕ)
    → x ≡ Struct es
    → (IsTrue body.whole → IsTrue old.whole × (body.bytes.items ++ listed before (map typed_init (drop i es)) ≡ old.bytes.items ++ listed (codes "{ ") (map typed_init es)))
    → length es ≤ i
    → IsTold body new (struct_end es)
    → IsTold old new (printed_init x t)
struct_told old body new before t x es i is texts over last =
    told_as old new _ _ (ended es ∙ sym (at_struct t es) ∙ ap (λ c. printed_init c t) (sym is))
    (told_then old body new _ _ (none_left old body before _ es i texts over) last)
