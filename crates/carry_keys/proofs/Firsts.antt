-- What the slots that are filled for a block say: a line of the block has its key for the first time exactly if the slot that holds the
-- key has this line's offset.
use Prim.Native.Nat.{ℕ, zero, suc, ◌+◌, ◌-◌, ◌*◌, ◌/◌, ◌%◌, ◌≤◌, ◌<◌}
use mathlib.Core.Path.{◌≡◌, refl, sym, ap, ap₂, subst, ◌∙◌}
use mathlib.Core.Bool.{Bool, true, false, not, ◌&&◌, ◌||◌, cond}
use mathlib.Core.List.{List, [], ◌∷◌, ◌++◌, append_assoc}
use native.Mathlib.Omega.{arith}
use lib.ListN.{length, take, drop, replicate, length-append, length-replicate}
use lib.Dec.{ltb, eqb}
use borrow.Author.Tests.{lt-ltb, ltb-true, ltb-false, eq-eqb, ne_eqb}
use Rattle.format.specs.Bytes.{any}
use Rattle.format.specs.Lines.{Piece, lines_from}
use Rattle.format.specs.Records.{Record, header, reference, group, program, comment, Line, refused_line, read, line}
use Rattle.format.specs.Reading.{clash}
use Rattle.format.specs.Slots.{pick}
use Rattle.byte_slices.specs.First.{first_line}
use Rattle.byte_slices.specs.Stands.{Stands, Each}
use Rattle.accepted.specs.Pieces.{pieces}
use Rattle.accepted.proofs.Stands.{line-stand}
use Rattle.accepted.specs.First.{first_at}
use Rattle.accepted.proofs.Ahead.{ahead_none, ahead-one}
use Rattle.record.specs.Head.{head_of, record_head, stretch_of}
use Rattle.read_admission.proofs.Admission.{taken-clash}
use Rattle.key_at.specs.Word.{word}
use Rattle.key_index.specs.KeySlots.{value, pointed, is_own, sought_of, offset_of, after_pointing, is_first_key}
use Rattle.key_look.specs.Sought.{fingerprint, tells_key, sought}
use Rattle.key_index.specs.HeldKeys.{values_of, key_values_of}
use Rattle.accepted.specs.Ended.{Ended}
use Rattle.key_index.proofs.Held.{value-place}
use Rattle.key_index.proofs.HeldKeys.{value-some, values-few, told_in, told-taken, pick-append, pointing-length}
use Rattle.key_index.proofs.Pointing.{told_by, own-told, tells-own, latest, pointing-told}
use Rattle.carry_keys.specs.Blocks.{head_keys, keyed_front, keyed_behind, earlier, record_if_read, read_in, entered, pointed_back, filled_for}
use Rattle.carry_keys.proofs.Walk.{front-none, front-behind}
use Rattle.carry_keys.proofs.Lines.{each_left, each_right, Sits, lines-sit, sits-stand, sits-ended, reads-ended, lines-before, earlier-all, Low, lines-low}
use Rattle.carry_keys.proofs.Entering.{pick-split, entered-length, entered-told}
use Rattle.key_look.specs.declared.Seed.{Seed}

-- ---- after the earlier lines

latest-append : (hit : ℕ → Bool) (w : ℕ) (vs ws : List ℕ) → latest hit (latest hit w vs) ws ≡ latest hit w (vs ++ ws)
unfolding latest
latest-append hit w [] ws = refl
latest-append hit w (zero ∷ vs) ws = latest-append hit w vs ws
latest-append hit w (suc j ∷ vs) ws = latest-append hit (cond (hit (suc j) && ltb 0 w) (suc j) w) vs ws

pub read-append : (strict : Bool) (ps qs : List Piece) → read_in strict (ps ++ qs) ≡ read_in strict ps ++ read_in strict qs
unfolding read_in
read-append strict [] qs = refl
read-append strict (p ∷ ps) qs = ap (λ l. record_if_read (line strict p) ++ l) (read-append strict ps qs) ∙ sym (append_assoc (record_if_read (line strict p)) (read_in strict ps) (read_in strict qs))

-- ---- the value that holds a key, among earlier ones

low-pick : (hit : ℕ → Bool) (n : ℕ) (vs : List ℕ) → Each (Low n) vs → 0 < pick hit vs → Low n (pick hit vs)
unfolding pick Each
low-pick hit n [] e h = absurd (omega (arith, h))
low-pick hit n (zero ∷ vs) e h = low-pick hit n vs e.1 h
low-pick hit n (suc j ∷ vs) e h = go (hit (suc j)) h (low-pick hit n vs e.1)
  where
    go : (b : Bool) → 0 < cond b (suc j) (pick hit vs) → (0 < pick hit vs → Low n (pick hit vs)) → Low n (cond b (suc j) (pick hit vs))
    go true h ih = e.0
    go false h ih = ih h

-- none took its place
latest-none : (hit : ℕ → Bool) (w : ℕ) (vs : List ℕ) → pick hit vs ≡ 0 → latest hit w vs ≡ w
unfolding latest pick
latest-none hit w [] e = refl
latest-none hit w (zero ∷ vs) e = latest-none hit w vs e
latest-none hit w (suc j ∷ vs) e = go (hit (suc j)) e (latest-none hit w vs)
  where
    go : (b : Bool) → cond b (suc j) (pick hit vs) ≡ 0 → (pick hit vs ≡ 0 → latest hit w vs ≡ w) → latest hit (cond (b && ltb 0 w) (suc j) w) vs ≡ w
    go true e ih = absurd (omega (arith, e))
    go false e ih = ih e

latest-some : (hit : ℕ → Bool) (w : ℕ) (vs : List ℕ) → 0 < w → 0 < latest hit w vs
unfolding latest
latest-some hit w [] h = h
latest-some hit w (zero ∷ vs) h = latest-some hit w vs h
latest-some hit w (suc j ∷ vs) h = latest-some hit (cond (hit (suc j) && ltb 0 w) (suc j) w) vs (go (hit (suc j) && ltb 0 w))
  where
    go : (b : Bool) → 0 < cond b (suc j) w
    go true = omega arith
    go false = h

latest-kept : (hit : ℕ → Bool) (n w : ℕ) (vs : List ℕ) → Each (Low n) vs → Low n w → Low n (latest hit w vs)
unfolding latest Each
latest-kept hit n w [] e h = h
latest-kept hit n w (zero ∷ vs) e h = latest-kept hit n w vs e.1 h
latest-kept hit n w (suc j ∷ vs) e h = latest-kept hit n (cond (hit (suc j) && ltb 0 w) (suc j) w) vs e.1 (go (hit (suc j) && ltb 0 w))
  where
    go : (b : Bool) → Low n (cond b (suc j) w)
    go true = e.0
    go false = h

-- one of them did
latest-low : (hit : ℕ → Bool) (n w : ℕ) (vs : List ℕ) → Each (Low n) vs → 0 < w → 0 < pick hit vs → Low n (latest hit w vs)
unfolding latest pick Each
latest-low hit n w [] e h l = absurd (omega (arith, l))
latest-low hit n w (zero ∷ vs) e h l = latest-low hit n w vs e.1 h l
latest-low hit n w (suc j ∷ vs) e h l = go (hit (suc j)) l (latest-low hit n w vs e.1 h)
  where
    go : (b : Bool) → 0 < cond b (suc j) (pick hit vs) → (0 < pick hit vs → Low n (latest hit w vs)) → Low n (latest hit (cond (b && ltb 0 w) (suc j) w) vs)
    go true l ih = latest-kept hit n (cond (ltb 0 w) (suc j) w) vs e.1 (subst (λ b. Low n (cond b (suc j) w)) (sym (lt-ltb 0 w h)) e.0)
    go false l ih = ih l

-- the value `v`, which is accepted, after values `xs` of its block, and others `es` of earlier lines: all of these come before it
module _ (hit : ℕ → Bool) (n at : ℕ) (es xs ys : List ℕ) (v : ℕ) (told : hit v ≡ true) (some : v ≡ 0 → ⊥) (place : v % 16777216 ≡ at) (far : n ≤ at)
    (e : Each (Low n) es) (x : Each (Low n) xs) where
  own : pick hit (v ∷ ys) ≡ v
  unfolding pick
  own = go v some told
    where
      go : (v : ℕ) → (v ≡ 0 → ⊥) → hit v ≡ true → pick hit (v ∷ ys) ≡ v
      go zero z h = absurd (z refl)
      go (suc j) z h = rw h refl

  block : pick hit (xs ++ (v ∷ ys)) ≡ cond (ltb 0 (pick hit xs)) (pick hit xs) v
  block = pick-split hit xs (v ∷ ys) ∙ ap (λ w. cond (ltb 0 (pick hit xs)) (pick hit xs) w) own

  block-some : 0 < pick hit (xs ++ (v ∷ ys))
  block-some = rw block (go (ltb 0 (pick hit xs)) refl)
    where
      go : (b : Bool) → ltb 0 (pick hit xs) ≡ b → 0 < cond b (pick hit xs) v
      go true q = ltb-true 0 (pick hit xs) q
      go false q = pos v some
        where
          pos : (v : ℕ) → (v ≡ 0 → ⊥) → 0 < v
          pos zero z = absurd (z refl)
          pos (suc j) z = omega arith

  told-some : 0 < latest hit (pick hit (xs ++ (v ∷ ys))) es
  told-some = latest-some hit (pick hit (xs ++ (v ∷ ys))) es block-some

  low-apart : (w : ℕ) → Low n w → eqb (w % 16777216) at ≡ false
  unfolding Low
  low-apart w l = ne_eqb (w % 16777216) at (λ q. omega (arith, q, l, far))

  told-first : eqb (latest hit (pick hit (xs ++ (v ∷ ys))) es % 16777216) at ≡ not (ltb 0 (pick hit es) || ltb 0 (pick hit xs))
  told-first = go (ltb 0 (pick hit es)) refl (ltb 0 (pick hit xs)) refl
    where
      none : {m : ℕ} → m ≤ 0 → m ≡ 0
      none h = omega (arith, h)

      go : (b : Bool) → ltb 0 (pick hit es) ≡ b → (c : Bool) → ltb 0 (pick hit xs) ≡ c → eqb (latest hit (pick hit (xs ++ (v ∷ ys))) es % 16777216) at ≡ not (b || c)
      go true q c f = low-apart (latest hit (pick hit (xs ++ (v ∷ ys))) es) (latest-low hit n (pick hit (xs ++ (v ∷ ys))) es e block-some (ltb-true 0 (pick hit es) q))
      go false q true f =
          ap (λ w. eqb (w % 16777216) at) (latest-none hit (pick hit (xs ++ (v ∷ ys))) es (none (ltb-false 0 (pick hit es) q)) ∙ block ∙ ap (λ b. cond b (pick hit xs) v) f)
          ∙ low-apart (pick hit xs) (low-pick hit n xs x (ltb-true 0 (pick hit xs) f))
      go false q false f =
          ap (λ w. eqb (w % 16777216) at) (latest-none hit (pick hit (xs ++ (v ∷ ys))) es (none (ltb-false 0 (pick hit es) q)) ∙ block ∙ ap (λ b. cond b (pick hit xs) v) f)
          ∙ eq-eqb (v % 16777216) at place

-- and some line is among them only where one may
front-more : (strict : Bool) (m : ℕ) (ps : List Piece) → 0 < length (keyed_front strict m ps) → 0 < m
front-more strict m ps h = go (ltb 0 m) refl
  where
    go : (b : Bool) → ltb 0 m ≡ b → 0 < m
    go true e = ltb-true 0 m e
    go false e = absurd (omega (arith, h, ap length (front-none strict m (omega (arith, ltb-false 0 m e)) ps)))

module _ (seed : Seed) where
  keys-append : (rs qs : List Record) → key_values_of seed (rs ++ qs) ≡ key_values_of seed rs ++ key_values_of seed qs
  unfolding key_values_of
  keys-append [] qs = refl
  keys-append (r ∷ rs) qs = ap (λ l. values_of seed r ++ l) (keys-append rs qs) ∙ sym (append_assoc (values_of seed r) (key_values_of seed rs) (key_values_of seed qs))

  pointed-told : (strict : Bool) (t : List ℕ) → length t ≤ 16777216 → (slots : List ℕ) → 0 < length slots → (ps : List Piece) → Each (Sits t) ps → (k : ℕ) (id : List ℕ)
      → told_by seed t (pointed_back seed strict t slots ps) k id ≡ latest (tells_key seed t k id) (told_by seed t slots k id) (key_values_of seed (read_in strict ps))
  unfolding pointed_back read_in record_if_read key_values_of latest Each head_of after_pointing sought_of pointed
  pointed-told strict t small slots h [] s k id = refl
  pointed-told strict t small slots h (p ∷ ps) s k id = go (line strict p) refl (λ l n. pointed-told strict t small l n ps s.1 k id)
    where
      go : (l : Line) → line strict p ≡ l
          → ((slots : List ℕ) → 0 < length slots → told_by seed t (pointed_back seed strict t slots ps) k id ≡ latest (tells_key seed t k id) (told_by seed t slots k id) (key_values_of seed (read_in strict ps)))
          → told_by seed t (pointed_back seed strict t (after_pointing seed t slots (head_of l)) ps) k id ≡ latest (tells_key seed t k id) (told_by seed t slots k id) (key_values_of seed (record_if_read l ++ read_in strict ps))
      go (refused_line n) e ih = ih slots h
      go (read r) e ih =
          ih (after_pointing seed t slots (record_head r)) (omega (arith, h, pointing-length seed t slots (record_head r)))
          ∙ ap (λ w. latest (tells_key seed t k id) w (key_values_of seed (read_in strict ps))) (pointing-told seed t slots h k id r (sits-ended strict t small p s.0 r e) (sits-stand strict t small p s.0 r e))
          ∙ latest-append (tells_key seed t k id) (told_by seed t slots k id) (values_of seed r) (key_values_of seed (read_in strict ps))

  -- ---- the block

  -- a record has as many keys as its head
  record-keys : (r : Record) → length (values_of seed r) ≡ head_keys (record_head r)
  unfolding values_of head_keys record_head
  record-keys (header v fs) = refl
  record-keys (reference p n fs) = refl
  record-keys (group p fs) = refl
  record-keys (program p fs) = refl
  record-keys (comment p) = refl

  -- no more than `m` keys enter
  front-keys : (strict : Bool) (m : ℕ) (ps : List Piece) → length (key_values_of seed (read_in strict (keyed_front strict m ps))) ≤ m
  unfolding keyed_front read_in record_if_read key_values_of head_of head_keys
  front-keys strict m [] = omega arith
  front-keys strict m (p ∷ ps) = go (ltb 0 m) refl (λ k. front-keys strict k ps)
    where
      one : (l : Line) → 0 < m → ((k : ℕ) → length (key_values_of seed (read_in strict (keyed_front strict k ps))) ≤ k) → length (key_values_of seed (record_if_read l ++ read_in strict (keyed_front strict (m - head_keys (head_of l)) ps))) ≤ m
      one (refused_line n) h ih = omega (arith, ih (m - 0))
      one (read r) h ih =
          let k : ℕ = m - head_keys (record_head r) in
          let n = length-append (values_of seed r) (key_values_of seed (read_in strict (keyed_front strict k ps))) in
          omega (arith, n, ih k, record-keys r, values-few seed r, h)

      go : (b : Bool) → ltb 0 m ≡ b → ((k : ℕ) → length (key_values_of seed (read_in strict (keyed_front strict k ps))) ≤ k)
          → length (key_values_of seed (read_in strict (cond b (p ∷ keyed_front strict (m - head_keys (head_of (line strict p))) ps) []))) ≤ m
      go true e ih = one (line strict p) (ltb-true 0 m e) ih
      go false e ih = omega arith

  pointed-length : (strict : Bool) (t slots : List ℕ) (ps : List Piece) → length (pointed_back seed strict t slots ps) ≡ length slots
  unfolding pointed_back
  pointed-length strict t slots [] = refl
  pointed-length strict t slots (p ∷ ps) = pointed-length strict t (after_pointing seed t slots (head_of (line strict p))) ps ∙ pointing-length seed t slots (head_of (line strict p))

  -- the lines from `from` on are `es`, which start before `at`, and then `xs`, `p` and `rest`; the block from `at` on is `xs`, `p` and `ys`
  module _ (strict : Bool) (t : List ℕ) (small : length t ≤ 16777216) (n from at : ℕ) (es xs ys rest : List Piece) (p : Piece)
      (front : earlier at (lines_from from (drop from t)) ≡ es)
      (whole : lines_from from (drop from t) ≡ (es ++ xs) ++ (p ∷ rest))
      (block : keyed_front strict (n / 4 * 3) (lines_from at (drop at t)) ≡ xs ++ (p ∷ ys)) where
    sits : Each (Sits t) ((es ++ xs) ++ (p ∷ rest))
    sits = subst (Each (Sits t)) whole (lines-sit t from)

    -- it has fewer keys than there are slots
    room : length (key_values_of seed (read_in strict (xs ++ (p ∷ ys)))) < n
    room =
        let few = front-keys strict (n / 4 * 3) (lines_from at (drop at t)) in
        let more = front-more strict (n / 4 * 3) (lines_from at (drop at t)) in
        omega (arith, more (omega (arith, length-append xs (p ∷ ys), ap length block)), few, ap (λ l. length (key_values_of seed (read_in strict l))) block)

    slots : List ℕ
    slots = filled_for seed strict t n from at

    slots-are : slots ≡ pointed_back seed strict t (entered seed strict t (replicate n 0) (xs ++ (p ∷ ys))) es
    unfolding slots filled_for
    slots-are = ap₂ (λ b e. pointed_back seed strict t (entered seed strict t (replicate n 0) b) e) block front

    entered-some : 0 < length (entered seed strict t (replicate n 0) (xs ++ (p ∷ ys)))
    entered-some = omega (arith, room, entered-length seed strict t (replicate n 0) (xs ++ (p ∷ ys)), length-replicate {A = ℕ} n 0)

    slots-some : 0 < length slots
    slots-some = omega (arith, ap length slots-are, pointed-length strict t (entered seed strict t (replicate n 0) (xs ++ (p ∷ ys))) es, entered-some)

    -- the value that holds a key
    told-by : (k : ℕ) (id : List ℕ) → told_by seed t slots k id ≡ latest (tells_key seed t k id) (pick (tells_key seed t k id) (key_values_of seed (read_in strict (xs ++ (p ∷ ys))))) (key_values_of seed (read_in strict es))
    told-by k id =
        let b : Each (Sits t) (xs ++ (p ∷ ys)) =
        subst (Each (Sits t)) block
        (each_left (Sits t) (keyed_front strict (n / 4 * 3) (lines_from at (drop at t))) (keyed_behind strict (n / 4 * 3) (lines_from at (drop at t))) (subst (Each (Sits t)) (front-behind strict (n / 4 * 3) (lines_from at (drop at t))) (lines-sit t at))) in
        ap (λ s. told_by seed t s k id) slots-are
        ∙ pointed-told strict t small (entered seed strict t (replicate n 0) (xs ++ (p ∷ ys))) entered-some es (each_left (Sits t) es xs (each_left (Sits t) (es ++ xs) (p ∷ rest) sits)) k id
        ∙ ap (λ w. latest (tells_key seed t k id) w (key_values_of seed (read_in strict es))) (entered-told seed strict t small n (xs ++ (p ∷ ys)) b room k id)

    sit : Sits t p
    unfolding Each
    sit = (each_right (Sits t) (es ++ xs) (p ∷ rest) sits).0

    before : Each (Sits t) (es ++ xs)
    before = each_left (Sits t) (es ++ xs) (p ∷ rest) sits

    -- the keys of the lines before `p` come before it
    low : Each (Low p.at) (key_values_of seed (read_in strict es) ++ key_values_of seed (read_in strict xs))
    low =
        subst (Each (Low p.at)) (ap (key_values_of seed) (read-append strict es xs) ∙ keys-append (read_in strict es) (read_in strict xs))
        (lines-low seed strict t small p.at (es ++ xs) (lines-before t from (es ++ xs) p rest whole) before)

    module _ (r : Record) (is : line strict p ≡ read r) where
      keys-are : key_values_of seed (read_in strict (xs ++ (p ∷ ys))) ≡ key_values_of seed (read_in strict xs) ++ (values_of seed r ++ key_values_of seed (read_in strict ys))
      unfolding read_in record_if_read key_values_of
      keys-are =
          ap (key_values_of seed) (read-append strict xs (p ∷ ys) ∙ ap (λ l. read_in strict xs ++ (record_if_read l ++ read_in strict ys)) is) ∙ keys-append (read_in strict xs) (r ∷ read_in strict ys)

      -- its key, in its kind
      one-first : (j : ℕ) → 0 < j → (q : Piece) → (q.at < 16777216) × (word (drop q.at t) ≡ q.bytes) → Stands t 0 q → p.at ≤ q.at → values_of seed r ≡ value (fingerprint seed j q.bytes) q.at ∷ []
          → let id : List ℕ = take (length q.bytes) (drop q.at t) in
          is_own q.at slots (sought seed t slots j id) ≡ not (ltb 0 (pick (tells_key seed t j id) (key_values_of seed (read_in strict (es ++ xs)))))
      one-first j h q e s far vs =
          let id : List ℕ = take (length q.bytes) (drop q.at t) in
          let hit = tells_key seed t j id in
          let v : ℕ = value (fingerprint seed j q.bytes) q.at in
          let i : q.bytes ≡ id = s.bytes ∙ ap (λ m. take (length q.bytes) (drop m t)) (let z : q.at - 0 ≡ q.at = omega arith in z) in
          let evs : List ℕ = key_values_of seed (read_in strict es) in
          let xvs : List ℕ = key_values_of seed (read_in strict xs) in
          let yvs : List ℕ = key_values_of seed (read_in strict ys) in
          let told : hit v ≡ true = subst (λ b. tells_key seed t j b (value (fingerprint seed j q.bytes) q.at) ≡ true) i (tells-own seed t j q.bytes q.at e.0 e.1) in
          let some : v ≡ 0 → ⊥ = value-some seed j q.bytes q.at h in
          let place : v % 16777216 ≡ q.at = value-place (fingerprint seed j q.bytes) q.at e.0 in
          let le = each_left (Low p.at) evs xvs low in
          let lx = each_right (Low p.at) evs xvs low in
          let w : told_by seed t slots j id ≡ latest hit (pick hit (xvs ++ (v ∷ yvs))) evs = told-by j id ∙ ap (λ l. latest hit (pick hit l) evs) (keys-are ∙ ap (λ l. xvs ++ (l ++ yvs)) vs) in
          own-told seed t slots j id q.at slots-some (omega (arith, w, told-some hit p.at q.at evs xvs yvs v told some place far le lx))
          ∙ ap (λ x. eqb (x % 16777216) q.at) w
          ∙ told-first hit p.at q.at evs xvs yvs v told some place far le lx
          ∙ ap not (sym (pick-append hit evs xvs) ∙ ap (λ l. ltb 0 (pick hit l)) (sym (ap (key_values_of seed) (read-append strict es xs) ∙ keys-append (read_in strict es) (read_in strict xs))))

    first-told : (r : Record) → line strict p ≡ read r → is_first_key seed t slots (record_head r) ≡ not (told_in seed t (key_values_of seed (read_in strict (es ++ xs))) (record_head r))
    unfolding is_first_key is_own sought_of offset_of record_head stretch_of told_in values_of Ended pieces Each
    first-told r is = go r is (sits-ended strict t small p sit r is) (sits-stand strict t small p sit r is) (line-stand strict p r is)
      where
        go : (r : Record) → line strict p ≡ read r → Ended t r → Each (Stands t 0) (pieces r) → Each (Stands p.bytes p.at) (pieces r)
            → is_first_key seed t slots (record_head r) ≡ not (told_in seed t (key_values_of seed (read_in strict (es ++ xs))) (record_head r))
        go (header v fs) is e s a = refl
        go (reference q l fs) is e s a = one-first (reference q l fs) is 2 (omega arith) q e s.0 a.0.from refl
        go (group q fs) is e s a = one-first (group q fs) is 3 (omega arith) q e s.0 a.0.from refl
        go (program q fs) is e s a = one-first (program q fs) is 4 (omega arith) q e s.0 a.0.from refl
        go (comment q) is e s a = refl

    pub firsts-among : (r : Record) → line strict p ≡ read r → is_first_key seed t (filled_for seed strict t n from at) (record_head r) ≡ not (any (clash r) (read_in strict (es ++ xs)))
    unfolding slots
    firsts-among r is =
        first-told r is
        ∙ ap not (told-taken seed t (read_in strict (es ++ xs)) (reads-ended strict t small (es ++ xs) before) (record_head r) ∙ taken-clash t (read_in strict (es ++ xs)) r (sits-stand strict t small p sit r is))

  -- a line of the block from `at` on is the first with its key exactly if no line before it, from `from` on, clashes with it
  module _ (strict : Bool) (t : List ℕ) (n from at : ℕ) (es xs ys : List Piece) (p : Piece)
      (split : lines_from from (drop from t) ≡ es ++ lines_from at (drop at t))
      (block : keyed_front strict (n / 4 * 3) (lines_from at (drop at t)) ≡ xs ++ (p ∷ ys)) where
    behind : List Piece
    behind = keyed_behind strict (n / 4 * 3) (lines_from at (drop at t))

    whole : lines_from from (drop from t) ≡ (es ++ xs) ++ (p ∷ (ys ++ behind))
    unfolding behind
    whole =
        split
        ∙ ap (λ l. es ++ l) (front-behind strict (n / 4 * 3) (lines_from at (drop at t)) ∙ ap (λ l. l ++ behind) block ∙ append_assoc xs (p ∷ ys) behind)
        ∙ sym (append_assoc es xs (p ∷ (ys ++ behind)))

    here : at < length t
    unfolding keyed_front
    here = go (ltb at (length t)) refl
      where
        go : (b : Bool) → ltb at (length t) ≡ b → at < length t
        go true e = ltb-true at (length t) e
        go false e = absurd (omega (arith, length-append xs (p ∷ ys), ap length (sym (ap (keyed_front strict (n / 4 * 3)) (ahead_none t at (ltb-false at (length t) e))) ∙ block)))

    front : earlier at (lines_from from (drop from t)) ≡ es
    front =
        let next : ℕ = at + (first_line (drop at t)).next in
        let e : lines_from from (drop from t) ≡ es ++ (first_at at t ∷ lines_from next (drop next t)) = split ∙ ap (λ l. es ++ l) (ahead-one t at here) in
        ap (earlier at) e ∙ earlier-all at es (first_at at t) (lines_from next (drop next t)) (lines-before t from es (first_at at t) (lines_from next (drop next t)) e) (omega arith)

    pub firsts : length t ≤ 16777216 → (r : Record) → line strict p ≡ read r → is_first_key seed t (filled_for seed strict t n from at) (record_head r) ≡ not (any (clash r) (read_in strict (es ++ xs)))
    firsts small = firsts-among strict t small n from at es xs ys (ys ++ behind) p front whole block
