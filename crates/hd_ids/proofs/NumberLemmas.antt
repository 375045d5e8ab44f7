-- Numbers that are kept by blocks, as they are written and as rows are added.
use Rattle.std.proofs.Common.{◌≡◌, ◌≢◌, ◌∙◌, ◌⊎◌, inl, inr, ℕ, ◌+◌, ◌-◌, ◌*◌, ◌/◌, ◌%◌, ◌<◌, ◌≤◌, ◌^◌, ◌==◌, ◌&&◌, not, Bool, true, false, eqb, List, ◌++◌}
use Rattle.std.proofs.Common.{length, map, replicate, get_or, slice_set, refl, sym, ap, subst, arith, length-append, ne_eqb, get_or-set_same, get_or-set_other}
use Rattle.std.proofs.Common.{length-set}
use Rattle.std.specs.List.{range_with_len}
use Rattle.std.proofs.lemmas.Bool.{cases_lt, cases_Bool}
use Rattle.std.proofs.lemmas.Bool.Decides.{eqb_tells}
use Rattle.std.proofs.lemmas.List.{get_or_default, get_or_past, get_or_append_left, get_or-append_right, get_or-replicate, length-replicate, ext_get_or}
use Rattle.std.proofs.lemmas.List.Elements.{All-append, All-from_get_or, All-set}
use Rattle.std.proofs.lemmas.List.FromFn.{get_or-map-range_with_len, length-map-range_with_len}
use Rattle.hd_ids.specs.declared.block.Block.{Block}
use Rattle.hd_ids.proofs.BlockLemmas.{no-number}
use Rattle.hd_ids.specs.Numbers.{no_numbers, is_scattered, number_by, number_in, block_at, number_at, numbers_of, IsBlockWith, AreBlocks}

-- numbers at the places, by blocks and scattered numbers
module _ (blocks : List Block) (scattered : List ℕ) where
  pub length-numbers : length (numbers_of blocks scattered) ≡ length blocks * 32
  length-numbers = length-map-range_with_len (number_at blocks scattered) 0 (length blocks * 32)

  pub at-slot : (slot : ℕ) → slot < length blocks * 32 → get_or (numbers_of blocks scattered) slot 0 ≡ number_at blocks scattered slot
  at-slot slot lt = get_or-map-range_with_len (number_at blocks scattered) 0 (length blocks * 32) slot slot 0 lt (omega arith)

-- a list of numbers is these, if it has as many and the same at each place
pub numbers-are : (blocks : List Block) (scattered view : List ℕ) → length view ≡ length blocks * 32
    → ((q : ℕ) → q < length blocks * 32 → number_at blocks scattered q ≡ get_or view q 0) → numbers_of blocks scattered ≡ view
numbers-are blocks scattered view long same =
    ext_get_or 0 (numbers_of blocks scattered) view (length-numbers blocks scattered ∙ sym long)
    (λ q below. let lt : q < length blocks * 32 = omega (arith, below, length-numbers blocks scattered) in at-slot blocks scattered q lt ∙ same q lt)

-- two truth values
differ : true ≡ false → ⊥
differ e = cc

-- the first number of a scattered block is one more than the index of a row
pub scattered-some : (b : Block) → is_scattered b ≡ true → 0 < b.first
scattered-some b e = some (eqb_tells b.first 0)
  where
    no-zero : (m z : Bool) → (m && not z) ≡ true → z ≡ false
    no-zero true false e = refl
    no-zero true true e = absurd cc
    no-zero false z e = absurd cc

    some : ((eqb b.first 0 ≡ true) × (b.first ≡ 0)) ⊎ ((eqb b.first 0 ≡ false) × (b.first ≢ 0)) → 0 < b.first
    some (inl (t, _)) = absurd (differ (sym t ∙ no-zero (b.mask == 0) (b.first == 0) e))
    some (inr (_, ne)) = omega (arith, ne)

-- the number of a block that isn't scattered
pub by-follows : (scattered : List ℕ) (b : Block) (place : ℕ) → is_scattered b ≡ false → number_in scattered b place ≡ number_by b place
by-follows scattered b place e = rw e refl

-- and of one that is
pub by-row : (scattered : List ℕ) (b : Block) (place : ℕ) → is_scattered b ≡ true → number_in scattered b place ≡ get_or scattered
    ((b.first - 1) * 32 + place) 0
by-row scattered b place e = rw e refl

-- what is read of a block is the block
pub read-block : (blocks : List Block) (i : ℕ) (b : Block) → i < length blocks → b ≡ get_or blocks i b → b ≡ block_at blocks i
read-block blocks i b lt e = e ∙ get_or_default blocks i b no_numbers lt

-- another block, whose numbers follow one another, stands where one did
module _ (blocks : List Block) (scattered : List ℕ) (i : ℕ) (b : Block) (inside : i < length blocks) (low : b.first ≤ 2 ^ 31)
    (follows : is_scattered b ≡ false) where
  abbrev replaced : List Block
  replaced = slice_set blocks i b

  -- of another block nothing changes, and this one isn't scattered
  untouched : (j : ℕ) → is_scattered (block_at replaced j) ≡ true → block_at replaced j ≡ block_at blocks j
  untouched j e = by (eqb_tells j i)
    where
      by : ((eqb j i ≡ true) × (j ≡ i)) ⊎ ((eqb j i ≡ false) × (j ≢ i)) → block_at replaced j ≡ block_at blocks j
      by (inl (_, same)) =
          let here : block_at replaced j ≡ b = ap (λ (k : ℕ). block_at replaced k) same ∙ get_or-set_same blocks i b no_numbers inside in
          absurd (differ (sym e ∙ ap is_scattered here ∙ follows))
      by (inr (_, other)) = get_or-set_other blocks i j b no_numbers other

  pub whole-kept : AreBlocks blocks scattered → AreBlocks replaced scattered
  whole-kept h = record {
    few = omega (arith, h.few, length-set blocks i b);
    low = All-set (λ (x : Block). x.first ≤ 2 ^ 31) blocks i b low h.low;
    whole = h.whole;
    within = λ j e. subst (λ (x : Block). x.first * 32 ≤ length scattered) (sym (untouched j e)) (h.within j (sym (ap is_scattered (untouched j e)) ∙ e));
    apart = λ j k e f g.
        let first : (x : ℕ) → is_scattered (block_at replaced x) ≡ true → (block_at replaced x).first ≡ (block_at blocks x).first =
        λ x is. ap (λ (y : Block). y.first) (untouched x is) in
        h.apart j k (sym (ap is_scattered (untouched j e)) ∙ e) (sym (ap is_scattered (untouched k f)) ∙ f) (sym (first j e) ∙ g ∙ first k f);
  }

  pub whole-here : (place : ℕ) → place < 32 → get_or (numbers_of replaced scattered) (i * 32 + place) 0 ≡ number_by b place
  whole-here place lt =
      let block : (i * 32 + place) / 32 ≡ i = omega (arith, lt) in
      let rest : (i * 32 + place) % 32 ≡ place = omega (arith, lt) in
      at-slot replaced scattered (i * 32 + place) (omega (arith, inside, lt, length-set blocks i b))
      ∙ ap (λ (k : ℕ). number_in scattered (block_at replaced k) ((i * 32 + place) % 32)) block
      ∙ ap (number_in scattered (block_at replaced i)) rest
      ∙ ap (λ (x : Block). number_in scattered x place) (get_or-set_same blocks i b no_numbers inside)
      ∙ by-follows scattered b place follows

  pub whole-others : (q : ℕ) → q / 32 ≢ i → get_or (numbers_of replaced scattered) q 0 ≡ get_or (numbers_of blocks scattered) q 0
  whole-others q other = elim (cases_lt q (length blocks * 32)) [
    | inl lt ↦
        at-slot replaced scattered q (omega (arith, lt, length-set blocks i b))
        ∙ ap (λ (x : Block). number_in scattered x (q % 32)) (get_or-set_other blocks i (q / 32) b no_numbers other)
        ∙ sym (at-slot blocks scattered q lt)
    | inr le ↦
        get_or_past (numbers_of replaced scattered) q 0 (omega (arith, le, length-set blocks i b, length-numbers replaced scattered))
        ∙ sym (get_or_past (numbers_of blocks scattered) q 0 (omega (arith, le, length-numbers blocks scattered)))
  ]

-- a block in which a number is written stands instead of another
module _ (blocks : List Block) (scattered : List ℕ) (slot n : ℕ) (b : Block) (lt : slot < length blocks * 32)
    (is : IsBlockWith (block_at blocks (slot / 32)) (slot % 32) n b) where
  abbrev i : ℕ
  i = slot / 32

  abbrev written : List Block
  written = slice_set blocks i b

  inside : i < length blocks
  inside = omega (arith, lt)

  set-at : (q : ℕ) → ((eqb q slot ≡ true) × (q ≡ slot)) ⊎ ((eqb q slot ≡ false) × (q ≢ slot)) → ((eqb (q / 32) i ≡ true) × (q / 32 ≡ i))
      ⊎ ((eqb (q / 32) i ≡ false) × (q / 32 ≢ i))
      → q < length blocks * 32 → number_at written scattered q ≡ get_or (slice_set (numbers_of blocks scattered) slot n) q 0
  set-at q (inl (_, e)) _ below =
      rw e (
      ap (λ (x : Block). number_in scattered x (slot % 32)) (get_or-set_same blocks i b no_numbers inside)
      ∙ is.here scattered
      ∙ sym (get_or-set_same (numbers_of blocks scattered) slot n 0 (omega (arith, lt, length-numbers blocks scattered)))
      )
  set-at q (inr (_, ne)) (inl (_, e)) below =
      let other : q % 32 ≢ slot % 32 = λ d. ne (omega (arith, d, e)) in
      ap (λ (x : Block). number_in scattered x (q % 32)) (ap (λ (k : ℕ). block_at written k) e ∙ get_or-set_same blocks i b no_numbers inside)
      ∙ is.others scattered (q % 32) other
      ∙ ap (λ (k : ℕ). number_in scattered (block_at blocks k) (q % 32)) (sym e)
      ∙ sym (at-slot blocks scattered q below)
      ∙ sym (get_or-set_other (numbers_of blocks scattered) slot q n 0 ne)
  set-at q (inr (_, ne)) (inr (_, other)) below =
      ap (λ (x : Block). number_in scattered x (q % 32)) (get_or-set_other blocks i (q / 32) b no_numbers other)
      ∙ sym (at-slot blocks scattered q below)
      ∙ sym (get_or-set_other (numbers_of blocks scattered) slot q n 0 ne)

  pub number-set : numbers_of written scattered ≡ slice_set (numbers_of blocks scattered) slot n
  number-set =
      numbers-are written scattered (slice_set (numbers_of blocks scattered) slot n)
      (length-set (numbers_of blocks scattered) slot n ∙ length-numbers blocks scattered ∙ ap (λ (k : ℕ). k * 32) (sym (length-set blocks i b)))
      (λ q below. set-at q (eqb_tells q slot) (eqb_tells (q / 32) i) (omega (arith, below, length-set blocks i b)))

  pub set-kept : AreBlocks blocks scattered → AreBlocks written scattered
  set-kept h = whole-kept blocks scattered i b inside is.low is.follows h

-- a block gets a row of scattered numbers, which are its own
module _ (blocks : List Block) (scattered : List ℕ) (i row : ℕ) (inside : i < length blocks) (h : AreBlocks blocks scattered)
    (none : is_scattered (block_at blocks i) ≡ false) (end : length scattered ≡ row * 32) where
  abbrev b : Block
  b = block_at blocks i

  abbrev moved : Block
  moved = record { mask = 0; first = row + 1 }

  abbrev spread : List Block
  spread = slice_set blocks i moved

  abbrev own : List ℕ
  own = map (number_by b) (range_with_len 0 32)

  abbrev more : List ℕ
  more = scattered ++ own

  pub moved-scattered : is_scattered moved ≡ true
  moved-scattered = rw (ne_eqb (row + 1) 0 (λ e. omega (arith, e))) refl

  moved-at : (place : ℕ) → place < 32 → number_in more moved place ≡ number_by b place
  moved-at place lt =
      let behind : (row + 1 - 1) * 32 + place - length scattered ≡ place = omega (arith, end) in
      by-row more moved place moved-scattered
      ∙ get_or-append_right scattered own (length scattered) ((row + 1 - 1) * 32 + place) 0 refl (omega (arith, end))
      ∙ ap (λ (k : ℕ). get_or own k 0) behind
      ∙ get_or-map-range_with_len (number_by b) 0 32 place place 0 lt (omega arith)

  -- what stands in another block's row stays
  row-stays : (j place : ℕ) → place < 32 → number_in more (block_at blocks j) place ≡ number_in scattered (block_at blocks j) place
  row-stays j place lt = by (cases_Bool (is_scattered (block_at blocks j)))
    where
      by : (is_scattered (block_at blocks j) ≡ true) ⊎ (is_scattered (block_at blocks j) ≡ false)
          → number_in more (block_at blocks j) place ≡ number_in scattered (block_at blocks j) place
      by (inl own_row) =
          by-row more (block_at blocks j) place own_row
          ∙ get_or_append_left scattered own 0 (((block_at blocks j).first - 1) * 32 + place)
          (omega (arith, h.within j own_row, scattered-some (block_at blocks j) own_row, lt))
          ∙ sym (by-row scattered (block_at blocks j) place own_row)
      by (inr follows) = by-follows more (block_at blocks j) place follows ∙ sym (by-follows scattered (block_at blocks j) place follows)

  spread-at : (q : ℕ) → ((eqb (q / 32) i ≡ true) × (q / 32 ≡ i)) ⊎ ((eqb (q / 32) i ≡ false) × (q / 32 ≢ i)) → q < length blocks * 32
      → number_at spread more q ≡ get_or (numbers_of blocks scattered) q 0
  spread-at q (inl (_, e)) below =
      ap (λ (x : Block). number_in more x (q % 32)) (ap (λ (k : ℕ). block_at spread k) e ∙ get_or-set_same blocks i moved no_numbers inside)
      ∙ moved-at (q % 32) (omega arith)
      ∙ sym (by-follows scattered b (q % 32) none)
      ∙ ap (λ (k : ℕ). number_in scattered (block_at blocks k) (q % 32)) (sym e)
      ∙ sym (at-slot blocks scattered q below)
  spread-at q (inr (_, other)) below =
      ap (λ (x : Block). number_in more x (q % 32)) (get_or-set_other blocks i (q / 32) moved no_numbers other)
      ∙ row-stays (q / 32) (q % 32) (omega arith)
      ∙ sym (at-slot blocks scattered q below)

  pub same-numbers : numbers_of spread more ≡ numbers_of blocks scattered
  same-numbers =
      numbers-are spread more (numbers_of blocks scattered)
      (length-numbers blocks scattered ∙ ap (λ (k : ℕ). k * 32) (sym (length-set blocks i moved)))
      (λ q below. spread-at q (eqb_tells (q / 32) i) (omega (arith, below, length-set blocks i moved)))

  own-length : length more ≡ length scattered + 32
  own-length = length-append scattered own ∙ ap (λ (k : ℕ). length scattered + k) (length-map-range_with_len (number_by b) 0 32)

  spread-within : (j : ℕ) → ((eqb j i ≡ true) × (j ≡ i)) ⊎ ((eqb j i ≡ false) × (j ≢ i)) → is_scattered (block_at spread j) ≡ true
      → (block_at spread j).first * 32 ≤ length more
  spread-within j (inl (_, same)) e =
      let here : block_at spread j ≡ moved = ap (λ (k : ℕ). block_at spread k) same ∙ get_or-set_same blocks i moved no_numbers inside in
      omega (arith, ap (λ (x : Block). x.first) here, own-length, end)
  spread-within j (inr (_, other)) e =
      let there : block_at spread j ≡ block_at blocks j = get_or-set_other blocks i j moved no_numbers other in
      omega (arith, ap (λ (x : Block). x.first) there, h.within j (sym (ap is_scattered there) ∙ e), own-length)

  spread-apart : (j k : ℕ) → ((eqb j i ≡ true) × (j ≡ i)) ⊎ ((eqb j i ≡ false) × (j ≢ i)) → ((eqb k i ≡ true) × (k ≡ i)) ⊎ ((eqb k i ≡ false) × (k ≢ i))
      → is_scattered (block_at spread j) ≡ true → is_scattered (block_at spread k) ≡ true → (block_at spread j).first ≡ (block_at spread k).first → j ≡ k
  spread-apart j k (inl (_, a)) (inl (_, b)) e f g = a ∙ sym b
  spread-apart j k (inl (_, a)) (inr (_, other)) e f g =
      let here : block_at spread j ≡ moved = ap (λ (k : ℕ). block_at spread k) a ∙ get_or-set_same blocks i moved no_numbers inside in
      let there : block_at spread k ≡ block_at blocks k = get_or-set_other blocks i k moved no_numbers other in
      absurd (omega (arith, ap (λ (x : Block). x.first) here, ap (λ (x : Block). x.first) there, g, h.within k (sym (ap is_scattered there) ∙ f), end))
  spread-apart j k (inr (_, other)) (inl (_, b)) e f g =
      let here : block_at spread k ≡ moved = ap (λ (k : ℕ). block_at spread k) b ∙ get_or-set_same blocks i moved no_numbers inside in
      let there : block_at spread j ≡ block_at blocks j = get_or-set_other blocks i j moved no_numbers other in
      absurd (omega (arith, ap (λ (x : Block). x.first) here, ap (λ (x : Block). x.first) there, g, h.within j (sym (ap is_scattered there) ∙ e), end))
  spread-apart j k (inr (_, a)) (inr (_, b)) e f g =
      let one : block_at spread j ≡ block_at blocks j = get_or-set_other blocks i j moved no_numbers a in
      let two : block_at spread k ≡ block_at blocks k = get_or-set_other blocks i k moved no_numbers b in
      h.apart j k (sym (ap is_scattered one) ∙ e) (sym (ap is_scattered two) ∙ f) (sym (ap (λ (x : Block). x.first) one) ∙ g ∙ ap (λ (x : Block). x.first) two)

  pub spread-kept : row < 2 ^ 31 → AreBlocks spread more
  spread-kept few = record {
    few = omega (arith, h.few, length-set blocks i moved);
    low = All-set (λ (x : Block). x.first ≤ 2 ^ 31) blocks i moved (omega (arith, few)) h.low;
    whole = omega (arith, own-length, end);
    within = λ j e. spread-within j (eqb_tells j i) e;
    apart = λ j k e f g. spread-apart j k (eqb_tells j i) (eqb_tells k i) e f g;
  }

-- a number is written into a row of scattered numbers
module _ (blocks : List Block) (scattered : List ℕ) (slot n : ℕ) (lt : slot < length blocks * 32) (h : AreBlocks blocks scattered)
    (in_row : is_scattered (block_at blocks (slot / 32)) ≡ true) where
  abbrev place : ℕ
  place = ((block_at blocks (slot / 32)).first - 1) * 32 + slot % 32

  pub place-within : place < length scattered
  place-within = omega (arith, h.within (slot / 32) in_row, scattered-some (block_at blocks (slot / 32)) in_row)

  abbrev changed : List ℕ
  changed = slice_set scattered place n

  changed-at : (q : ℕ) → ((eqb q slot ≡ true) × (q ≡ slot)) ⊎ ((eqb q slot ≡ false) × (q ≢ slot)) → q < length blocks * 32
      → number_at blocks changed q ≡ get_or (slice_set (numbers_of blocks scattered) slot n) q 0
  changed-at q (inl (_, e)) below =
      rw e (
      by-row changed (block_at blocks (slot / 32)) (slot % 32) in_row
      ∙ get_or-set_same scattered place n 0 place-within
      ∙ sym (get_or-set_same (numbers_of blocks scattered) slot n 0 (omega (arith, lt, length-numbers blocks scattered)))
      )
  changed-at q (inr (_, ne)) below =
      by (cases_Bool (is_scattered (block_at blocks (q / 32))))
      ∙ sym (at-slot blocks scattered q below)
      ∙ sym (get_or-set_other (numbers_of blocks scattered) slot q n 0 ne)
    where
      place_q : ℕ
      place_q = ((block_at blocks (q / 32)).first - 1) * 32 + q % 32

      by : (is_scattered (block_at blocks (q / 32)) ≡ true) ⊎ (is_scattered (block_at blocks (q / 32)) ≡ false)
          → number_at blocks changed q ≡ number_at blocks scattered q
      by (inl also) =
          let other : place_q ≢ place = λ same.
          let some : 0 < (block_at blocks (q / 32)).first = scattered-some (block_at blocks (q / 32)) also in
          let some' : 0 < (block_at blocks (slot / 32)).first = scattered-some (block_at blocks (slot / 32)) in_row in
          let firsts : (block_at blocks (q / 32)).first ≡ (block_at blocks (slot / 32)).first = omega (arith, same, some, some') in
          let blocks-same : q / 32 ≡ slot / 32 = h.apart (q / 32) (slot / 32) also in_row firsts in
          ne (omega (arith, same, firsts, blocks-same)) in
          by-row changed (block_at blocks (q / 32)) (q % 32) also
          ∙ get_or-set_other scattered place place_q n 0 other
          ∙ sym (by-row scattered (block_at blocks (q / 32)) (q % 32) also)
      by (inr follows) = by-follows changed (block_at blocks (q / 32)) (q % 32) follows ∙ sym (by-follows scattered (block_at blocks (q / 32)) (q % 32) follows)

  pub number-changed : numbers_of blocks changed ≡ slice_set (numbers_of blocks scattered) slot n
  number-changed =
      numbers-are blocks changed (slice_set (numbers_of blocks scattered) slot n)
      (length-set (numbers_of blocks scattered) slot n ∙ length-numbers blocks scattered)
      (λ q below. changed-at q (eqb_tells q slot) below)

  pub changed-kept : AreBlocks blocks changed
  changed-kept = record {
    few = h.few;
    low = h.low;
    whole = ap (λ (k : ℕ). k % 32) (length-set scattered place n) ∙ h.whole;
    within = λ j e. omega (arith, h.within j e, length-set scattered place n);
    apart = h.apart;
  }

-- blocks without numbers are added
module _ (blocks : List Block) (scattered : List ℕ) (m : ℕ) (h : AreBlocks blocks scattered) where
  abbrev longer : List Block
  longer = blocks ++ replicate m no_numbers

  empty-at : (i : ℕ) → length blocks ≤ i → block_at longer i ≡ no_numbers
  empty-at i le = get_or-append_right blocks (replicate m no_numbers) (length blocks) i no_numbers refl le ∙ zeros (cases_lt (i - length blocks) m)
    where
      zeros : (i - length blocks < m) ⊎ (m ≤ i - length blocks) → get_or (replicate m no_numbers) (i - length blocks) no_numbers ≡ no_numbers
      zeros (inl lt) = get_or-replicate m (i - length blocks) no_numbers no_numbers lt
      zeros (inr le) = get_or_past (replicate m no_numbers) (i - length blocks) no_numbers (omega (arith, le, length-replicate m no_numbers))

  none-in : (place : ℕ) → number_in scattered no_numbers place ≡ 0
  none-in place = no-number 0 place

  long : length longer ≡ length blocks + m
  long = length-append blocks (replicate m no_numbers) ∙ ap (λ (k : ℕ). length blocks + k) (length-replicate m no_numbers)

  longer-at : (q : ℕ) → (q < length blocks * 32) ⊎ (length blocks * 32 ≤ q) → q < length longer * 32
      → number_at longer scattered q ≡ get_or (numbers_of blocks scattered ++ replicate (m * 32) 0) q 0
  longer-at q (inl lt) below =
      ap (λ (x : Block). number_in scattered x (q % 32)) (get_or_append_left blocks (replicate m no_numbers) no_numbers (q / 32) (omega (arith, lt)))
      ∙ sym (at-slot blocks scattered q lt)
      ∙ sym (get_or_append_left (numbers_of blocks scattered) (replicate (m * 32) 0) 0 q (omega (arith, lt, length-numbers blocks scattered)))
  longer-at q (inr le) below =
      ap (λ (x : Block). number_in scattered x (q % 32)) (empty-at (q / 32) (omega (arith, le)))
      ∙ none-in (q % 32)
      ∙ sym (
      get_or-append_right (numbers_of blocks scattered) (replicate (m * 32) 0) (length blocks * 32) q 0 (length-numbers blocks scattered) le
      ∙ get_or-replicate (m * 32) (q - length blocks * 32) 0 0 (omega (arith, below, long, le))
      )

  pub blocks-added : numbers_of longer scattered ≡ numbers_of blocks scattered ++ replicate (m * 32) 0
  blocks-added =
      numbers-are longer scattered (numbers_of blocks scattered ++ replicate (m * 32) 0)
      (omega (
        arith,
        length-append (numbers_of blocks scattered) (replicate (m * 32) 0),
        length-replicate {A = ℕ}
            (m * 32) 0,
        length-numbers blocks scattered,
        long,
      ))
      (λ q below. longer-at q (cases_lt q (length blocks * 32)) below)

  old-block : (i : ℕ) → is_scattered (block_at longer i) ≡ true → block_at longer i ≡ block_at blocks i
  old-block i e = by (cases_lt i (length blocks))
    where
      by : (i < length blocks) ⊎ (length blocks ≤ i) → block_at longer i ≡ block_at blocks i
      by (inl lt) = get_or_append_left blocks (replicate m no_numbers) no_numbers i lt
      by (inr le) = empty-at i le ∙ sym (get_or_past blocks i no_numbers le)

  pub longer-kept : length blocks + m ≤ 2 ^ 27 → AreBlocks longer scattered
  longer-kept fits = record {
    few = omega (arith, fits, long);
    low = All-append (λ (x : Block). x.first ≤ 2 ^ 31) blocks (replicate m no_numbers) h.low
        (All-from_get_or (λ (x : Block). x.first ≤ 2 ^ 31) (replicate m no_numbers) no_numbers (λ i lt. low-none i lt));
    whole = h.whole;
    within = λ j e. subst (λ (x : Block). x.first * 32 ≤ length scattered) (sym (old-block j e)) (h.within j (sym (ap is_scattered (old-block j e)) ∙ e));
    apart = λ j k e f g. h.apart j k (sym (ap is_scattered (old-block j e)) ∙ e) (sym (ap is_scattered (old-block k f)) ∙ f)
        (sym (ap (λ (x : Block). x.first) (old-block j e)) ∙ g ∙ ap (λ (x : Block). x.first) (old-block k f));
  }
    where
      low-none : (i : ℕ) → i < length (replicate m no_numbers) → (get_or (replicate m no_numbers) i no_numbers).first ≤ 2 ^ 31
      low-none i lt = subst (λ (x : Block). x.first ≤ 2 ^ 31)
          (sym (get_or-replicate m i no_numbers no_numbers (omega (arith, lt, length-replicate m no_numbers)))) (omega arith)
