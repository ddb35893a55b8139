-- Judging a merge that another tool made (Req 12): the headers A and B, the merged header, and two lists, which give the ordinal in the merged header
-- of each program of A and of B: its image. How IDs are chosen, HD, RG and CO are not judged.
use Rattle.std.specs.Prelude.{ℕ, zero, suc, Bool, true, false, not, ◌&&◌, ◌||◌, cond, List, [], ◌∷◌, ◌++◌, map, length, get_or, eqb, ltb}
use Rattle.format.specs.Bytes.{same, all, any, distinct}
use Rattle.format.specs.Fields.{Field, tagged, last_of, without}
use Rattle.format.specs.Records.{Record, others}
use Rattle.format.specs.Reading.{of_kind}
use Rattle.format.specs.Programs.{Program, programs, Link, root, dangling, child, link, links, tangled, numbers_from}
use Rattle.format.specs.Calls.{Answer, refused, yes, records, untangled}
use Rattle.format.specs.References.{Reference, sq_list, same_references}

-- are two lists alike, element by element?
unfoldable pub alike : {A B : Type 0} → (A → B → Bool) → List A → List B → Bool
alike p [] [] = true
alike p [] (b ∷ bs) = false
alike p (a ∷ xs) [] = false
alike p (a ∷ xs) (b ∷ bs) = p a b && alike p xs bs

-- ---- 30: the SQ list, by name and length

unfoldable pub same_name : Reference → Reference → Bool
unfolding same
same_name r q = same r.name q.name

-- the same name with two lengths
unfoldable pub differ : Reference → Reference → Bool
unfolding same_name
differ r q = same_name r q && not (eqb r.size q.size)

-- shared names have equal lengths
unfoldable pub agreeing : List Reference → List Reference → Bool
unfolding any differ
agreeing a b = not (any (λ q. any (differ q) a) b)

-- those of B whose name A lacks
unfoldable pub lacking : List Reference → List Reference → List Reference
unfolding any same_name
lacking a [] = []
lacking a (q ∷ b) = cond (any (same_name q) a) (lacking a b) (q ∷ lacking a b)

-- the merged list is A's, followed by those of B whose name A lacks; and shared names have equal lengths
unfoldable pub is_joined : List Reference → List Reference → List Reference → Bool
unfolding agreeing same_references lacking
is_joined a b m = agreeing a b && same_references m (a ++ lacking a b)

-- ---- 31: the lists

-- one valid ordinal per program, of `n` programs, and none twice, where the merged header has `m` programs
unfoldable pub assigns : ℕ → ℕ → List ℕ → Bool
unfolding all distinct
assigns n m list = eqb (length list) n && all (λ i. ltb i m) list && distinct list

-- at least one list hits each merged program
unfoldable pub covers : ℕ → List ℕ → List ℕ → Bool
unfolding all any numbers_from
covers m list_a list_b = all (λ i. any (eqb i) list_a || any (eqb i) list_b) (numbers_from 0 m)

-- both lists, for `a` programs of A, `b` of B and `m` of the merged header
unfoldable pub assigned : ℕ → ℕ → ℕ → List ℕ → List ℕ → Bool
unfolding assigns covers
assigned a b m list_a list_b = assigns a m list_a && assigns b m list_b && covers m list_a list_b

-- ---- 32: the programs

-- what an image keeps: the fields except ID and PP, and the parent
pub record ProgramShape : Type 0 where
  pub fields : List Field
  pub parent : Link

unfoldable pub shape_of : List Program → Record → ProgramShape
unfolding without others link last_of
shape_of ps r = record { fields = without 80 80 (others r); parent = link ps (last_of 80 80 (others r)) }

-- the programs of a header, in order
unfoldable pub shapes : List Record → List ProgramShape
unfolding shape_of programs of_kind
shapes rs = map (shape_of (programs rs)) (of_kind 4 rs)

-- equal, wherever they are in their texts
unfoldable pub same_field : Field → Field → Bool
unfolding tagged same
same_field f g = tagged f.tag₀ f.tag₁ g && same f.value.bytes g.value.bytes

unfoldable pub is_root : Link → Bool
is_root root = true
is_root dangling = false
is_root (child k) = false

unfoldable pub is_child_of : ℕ → Link → Bool
is_child_of i root = false
is_child_of i dangling = false
is_child_of i (child k) = eqb i k

-- an image has the same fields in the same order
unfoldable pub keeps_fields : List Field → List Field → Bool
unfolding alike same_field
keeps_fields fs gs = alike same_field fs gs

-- it has a PP exactly if its original has one, and then its parent is the image of the original's parent
unfoldable pub keeps_parent : List ℕ → Link → Link → Bool
unfolding is_root is_child_of
keeps_parent list root l = is_root l
keeps_parent list dangling l = false
keeps_parent list (child k) l = is_child_of (get_or list k 0) l

unfoldable pub is_image : List ℕ → ProgramShape → ProgramShape → Bool
unfolding keeps_fields keeps_parent
is_image list n m = keeps_fields n.fields m.fields && keeps_parent list n.parent m.parent

-- a placeholder, which a valid ordinal never finds
unfoldable pub no_shape : ProgramShape
no_shape = record { fields = []; parent = root }

-- the programs `ns` have these images among `ms`
unfoldable pub images : List ℕ → List ProgramShape → List ProgramShape → Bool
unfolding alike is_image no_shape
images list ns ms = alike (is_image list) ns (map (λ i. get_or ms i no_shape) list)

-- ---- the call

-- which of the three texts a refusal is about
pub data Which : Type 0 where
  text_a text_b text_merged : Which

-- accepted; refused because of one of the texts, with a number and a line; or refused because the texts do not fit together, with a number
pub data Verdict : Type 0 where
  merged : Verdict
  unfit : Which → ℕ → ℕ → Verdict
  unmerged : ℕ → Verdict

-- 30, 31, 32
unfoldable pub judged_merge : List Record → List Record → List Record → List ℕ → List ℕ → Verdict
unfolding is_joined sq_list assigned images shapes
judged_merge a b m list_a list_b =
    cond (not (is_joined (sq_list a) (sq_list b) (sq_list m))) (unmerged 30)
    (cond (not (assigned (length (shapes a)) (length (shapes b)) (length (shapes m)) list_a list_b)) (unmerged 31)
    (cond (not (images list_a (shapes a) (shapes m) && images list_b (shapes b) (shapes m))) (unmerged 32) merged))

-- the first refusal is the verdict
unfoldable pub about : Which → Answer (List Record) → (List Record → Verdict) → Verdict
about w (refused n l) f = unfit w n l
about w (yes rs) f = f rs

-- no PP dangles and there is no cycle
unfoldable pub untangled_records : List Record → Answer (List Record)
unfolding untangled tangled links programs
untangled_records rs = untangled rs (tangled (links (programs rs)))

-- the refusals of reading A, B and the merged text; then 22 and 23 for each in that order; then 30, 31, 32
unfoldable pub judging_merge : List ℕ → List ℕ → List ℕ → List ℕ → List ℕ → Verdict
unfolding about records untangled_records judged_merge
judging_merge a b m list_a list_b =
    about text_a (records a) (λ a. about text_b (records b) (λ b. about text_merged (records m) (λ m.
    about text_a (untangled_records a) (λ a. about text_b (untangled_records b) (λ b. about text_merged (untangled_records m) (λ m.
    judged_merge a b m list_a list_b))))))
