-- In one memory: more defined bytes give a more defined value.
use Rattle.std.proofs.Common.{nat_eq, List, [], ◌∷◌}
use Rattle.std.specs.List.{AllZip}
use Rattle.ir_core.specs.declared.values.Byte.{Byte}
use Rattle.ir_core.specs.declared.values.Kind.{Kind}
use Rattle.ir_values.specs.Related.{IsByteLessDefined, IsByteRelated}
use Rattle.ir_values.specs.Values.{IsLessDefined}
use Rattle.ir_values.proofs.RelatedValues.{less_is_related}
use Rattle.block_memory.specs.Bytes.{value_of}
use Rattle.block_memory.proofs.BytesAgain.{value_alike}

pub value_monotone : (k : Kind) (xs ys : List Byte) → AllZip IsByteLessDefined xs ys → IsLessDefined (value_of k xs) (value_of k ys)
value_monotone k xs ys h = less_is_related.less (value_of k xs) (value_of k ys) (value_alike nat_eq less_is_related.one_to_one k xs ys (all xs ys h))
  where
    all : (xs ys : List Byte) → AllZip IsByteLessDefined xs ys → AllZip (IsByteRelated nat_eq) xs ys
    all [] [] h = tt
    all [] (y ∷ ys) h = h
    all (x ∷ xs) [] h = h
    all (x ∷ xs) (y ∷ ys) h = (less_is_related.related_byte x y h.0, all xs ys h.1)
