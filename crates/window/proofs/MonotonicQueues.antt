-- How a queue changes as an item leaves and one comes.
use Rattle.std.proofs.Common.{◌≡◌, ◌≢◌, ◌⊎◌, ℕ, zero, suc, ◌+◌, ◌-◌, ◌<◌, ◌≤◌, List, [], ◌∷◌, ◌++◌, length, take, drop, All, None, Some, inl, inr, refl, ap, sym, ◌∙◌, add-one, arith, length-append, length-drop, slice_get, slice_set, Bor, Option}
use Rattle.std.proofs.lemmas.List.{drop-set-lt, set_comm, length-map, length-set, map-append, drop-append-le, drop-set-add, drop_all, set-append_left, take-append-le, take_all}
use Rattle.std.proofs.lemmas.List.Elements.{All-cons, All-head, All-nil, All-push, All-tail, All-weaker}
use Rattle.std.proofs.lemmas.Option.{slice_get_cases, get_or_from_slice_get, slice_get_within, slice_get-map}
use Rattle.std.proofs.lemmas.Cmp.{upto}
use Rattle.std.proofs.lemmas.Grind.{common_steps}
use Rattle.std.proofs.Math.Seq.{drop-cons, set-append_seam}
use Rattle.std.specs.Option.{option_copied, option_map}
use Rattle.std.specs.Cmp.{IsTotalOrder}
use Rattle.std.specs.declared.cmp.Ordering.{Ordering}
use Rattle.ringbuffer.proofs.Items.{slice_get-append_left, slice_get-at, slice_get-drop}
use Rattle.ringbuffer.specs.Contents.{index_at}
use Rattle.window.specs.MonotonicQueue.{IsPopped, HoldsMonotonicQueue, IsMonotonicQueue, IsRanked, LeadsTo, Reaches, Stops, item_on, items_on, next}
use Rattle.window.specs.Least.{AtMost, IsBelow, IsFirstLeast, IsLeastFrom}
use Rattle.window.specs.declared.monotonic_queue.Candidate.{Candidate}
use Rattle.window.proofs.Mapped.{drop_written, map-set}
use Rattle.window.proofs.Pushed.{newest_read, read_is}
use Rattle.window.proofs.Orders.{AtMost-below, AtMost-same, IsBelow-trans}

-- By induction on the list: what holds of all items holds of that at a place.
pub All-at : {T : Type 0} (P : T → Type 0) (rs : List (Candidate T)) (i : ℕ) (r : Candidate T) → slice_get rs i ≡ Some r → All P (items_on rs) → P r.item
All-at P [] i r at all = absurd (let none : None ≡ Some r = at in cc)
All-at P (q ∷ rs) zero r at all = let same : q ≡ r = let is : Some q ≡ Some r = at in cc in rw same at (All-head P q.item (items_on rs) all)
All-at P (q ∷ rs) (suc i) r at all = All-at P rs i r at (All-tail P q.item (items_on rs) all)

-- A written place is read, if it is one.
pub set_read : {A : Type 0} (xs : List A) (i : ℕ) (x y : A) → slice_get xs i ≡ Some x → slice_get (slice_set xs i y) i ≡ Some y
set_read xs i x y at = grind (arith, common_steps, slice_get_cases)

-- Another is as it was.
pub set_other : {A : Type 0} (xs : List A) (i j : ℕ) (y : A) → j ≢ i → slice_get (slice_set xs i y) j ≡ slice_get xs j
set_other xs i j y other = grind (arith, common_steps, slice_get_cases)

-- From a place on, the list is what stands there and the rest.
pub drop_from : {A : Type 0} (xs : List A) (i : ℕ) (x : A) → slice_get xs i ≡ Some x → drop i xs ≡ x ∷ drop (suc i) xs
drop_from xs i x at = drop-cons xs i x (slice_get_within xs i x at) ∙ ap (λ y. y ∷ drop (suc i) xs) (get_or_from_slice_get xs i x x at)

-- A written item that is what stood there changes nothing.
pub set_same : {A : Type 0} (xs : List A) (i : ℕ) (x : A) → slice_get xs i ≡ Some x → slice_set xs i x ≡ xs
set_same xs i x at = grind (arith, common_steps, slice_get_cases)

-- Where the newest has the links of one that none has ranked, its link behind is all that is to be written.
pub newest_linked : {T : Type 0} (all rs : List (Candidate T)) (q r : Candidate T) (n far : ℕ) (mid after : List (Candidate T)) → all ≡ rs ++ q ∷ [] → n ≡ length all → q.behind ≡ 1 → q.ahead ≡ 0 → slice_get all (n - 1) ≡ Some r → slice_get mid (n - 1) ≡ Some r
    → ((x : Candidate T) → slice_get mid (n - 1) ≡ Some x → x.behind ≡ 1 → after ≡ slice_set mid (n - 1) (record x { behind = far })) → after ≡ slice_set mid (n - 1) (record r { behind = far; ahead = 0 })
newest_linked all rs q r n far mid after is n_is one none read read_mid wrote =
    let same : r ≡ q = newest_read all rs q r n is n_is read in
    let ahead : r.ahead ≡ 0 = rw same none in
    wrote r read_mid (rw same one) ∙ ap (λ a. slice_set mid (n - 1) (record r { behind = far; ahead = a })) ahead

-- The one before it may be written first:
pub ahead_linked : {T : Type 0} (all : List (Candidate T)) (last : Candidate T) (left n far : ℕ) (new : Candidate T) (mid : List (Candidate T)) → (left ≡ 0 → ⊥) → left < n → slice_get (slice_set all (n - 1) new) (left - 1) ≡ Some last
    → ((x : Candidate T) → slice_get all (left - 1) ≡ Some x → mid ≡ slice_set all (left - 1) (record x { ahead = far })) → mid ≡ slice_set all (left - 1) (record last { ahead = far })
ahead_linked all last left n far new mid some less read_last wrote_ahead =
    wrote_ahead last (sym (set_other all (n - 1) (left - 1) new (λ e. some (omega (arith, e, less)))) ∙ read_last)

-- the newest is read and written as if it came first.
pub both_linked : {T : Type 0} (all rs : List (Candidate T)) (q r last : Candidate T) (left n far : ℕ) (mid after : List (Candidate T)) → all ≡ rs ++ q ∷ [] → n ≡ length all → q.behind ≡ 1 → q.ahead ≡ 0 → (left ≡ 0 → ⊥) → left < n → slice_get all (n - 1) ≡ Some r
    → slice_get (slice_set all (n - 1) (record r { behind = far; ahead = 0 })) (left - 1) ≡ Some last
    → ((x : Candidate T) → slice_get all (left - 1) ≡ Some x → mid ≡ slice_set all (left - 1) (record x { ahead = far }))
    → ((x : Candidate T) → slice_get mid (n - 1) ≡ Some x → x.behind ≡ 1 → after ≡ slice_set mid (n - 1) (record x { behind = far }))
    → after ≡ slice_set (slice_set all (n - 1) (record r { behind = far; ahead = 0 })) (left - 1) (record last { ahead = far })
both_linked {T} all rs q r last left n far mid after is n_is one none some less read read_last wrote_ahead wrote_behind =
    let apart : left - 1 ≢ n - 1 = λ e. some (omega (arith, e, less)) in
    let q' : Candidate T = record r { behind = far; ahead = 0 } in
    let l : Candidate T = record last { ahead = far } in
    let mid_is : mid ≡ slice_set all (left - 1) l = ahead_linked all last left n far q' mid some less read_last wrote_ahead in
    let read_mid : slice_get mid (n - 1) ≡ Some r = ap (λ xs. slice_get xs (n - 1)) mid_is ∙ set_other all (left - 1) (n - 1) l (λ e. apart (sym e)) ∙ read in
    newest_linked all rs q r n far mid after is n_is one none read read_mid wrote_behind ∙ ap (λ xs. slice_set xs (n - 1) q') mid_is ∙ set_comm all (left - 1) (n - 1) l q' apart

-- a list is empty or ends
pub ends : (ds : List ℕ) → (ds ≡ []) ⊎ ((pre : List ℕ) × (d : ℕ) × (ds ≡ pre ++ d ∷ []))
ends [] = inl refl
ends (d ∷ ds) = elim (ends ds) [ inl e ↦ inr ([], d, ap (λ xs. d ∷ xs) e) | inr e ↦ inr (d ∷ e.0, e.1, ap (λ xs. d ∷ xs) e.2) ]

-- so much more than its place may the last that is named say
abbrev slack : ℕ → List ℕ → ℕ
slack more [] = more
slack more (e ∷ es) = 0

slack-0 : (pre : List ℕ) → slack 0 pre ≡ 0
slack-0 [] = refl
slack-0 (e ∷ es) = refl

leads_on : {T : Type 0} (r : Candidate T) (ds : List ℕ) → r.ahead ≡ next ds → LeadsTo r ds
leads_on r [] ahead = tt
leads_on r (d ∷ ds) ahead = ahead

leads_before : {T : Type 0} (r : Candidate T) (pre : List ℕ) (d : ℕ) → LeadsTo r (pre ++ d ∷ []) → LeadsTo r pre
leads_before r [] d leads = tt
leads_before r (e ∷ es) d leads = leads

leads_next : {T : Type 0} (r : Candidate T) (pre : List ℕ) (d k : ℕ) → LeadsTo r (pre ++ d ∷ []) → r.ahead ≡ next (pre ++ d ∷ k ∷ [])
leads_next r [] d k leads = leads
leads_next r (e ∷ es) d k leads = leads

pub next-append : (pre : List ℕ) (d k : ℕ) → next (pre ++ d ∷ []) ≡ next (pre ++ d ∷ k ∷ [])
next-append [] d k = refl
next-append (e ∷ es) d k = refl

module _ {T : Type 0} {cmp : T → T → Ordering} (o : IsTotalOrder cmp) where
  -- One more item comes last, and the least is not above it.
  least_push : (x y : T) (n : ℕ) (xs : List T) → n ≤ length xs → IsLeastFrom cmp x n xs → AtMost cmp x y → IsLeastFrom cmp x n (xs ++ y ∷ [])
  least_push x y n xs within is over = record { below = rw (take-append-le n xs (y ∷ []) within) is.below; at_most = All-push (AtMost cmp x) xs y is.at_most over }

  -- One more item comes first, and the least is below it.
  least_cons : (x y : T) (n : ℕ) (xs : List T) → IsLeastFrom cmp x n xs → IsBelow cmp x y → IsLeastFrom cmp x (suc n) (y ∷ xs)
  least_cons x y n xs is below = record {
    below = All-cons (IsBelow cmp x) y (take n xs) below is.below;
    at_most = All-cons (AtMost cmp x) y xs (AtMost-below o x y below) is.at_most;
  }

  -- a queue that none has popped_all yet
  begins : (x : T) (more : ℕ) (ds : List ℕ) (rs : List (Candidate T)) → IsMonotonicQueue cmp more ds rs → IsPopped cmp x 0 more ds rs
  begins x more [] rs is = rw is (refl, All-nil (IsBelow cmp x))
  begins x more (d ∷ ds) rs is =
      let (r, at, behind, ahead, least, rest) = is in
      (r, at, behind, leads_on r ds ahead, least, begins x 0 ds (drop (suc d) rs) rest)

  -- the newest is alone on its queue's end
  top : (k : ℕ) (rs : List (Candidate T)) (n : Candidate T) → length rs ≡ k → All (IsBelow cmp n.item) (items_on rs) → n.behind ≡ suc k → n.ahead ≡ 0 → IsMonotonicQueue cmp 0 (k ∷ []) (rs ++ n ∷ [])
  top k rs n long all behind ahead =
      let items_long : length (items_on rs) ≡ k = rw (length-map {A = Candidate T}) long in
      let all_below : All (IsBelow cmp n.item) (take k (items_on rs)) = rw (take_all k (items_on rs) (omega (arith, items_long))) all in
      let least : IsLeastFrom cmp n.item k (items_on rs) = record { below = all_below; at_most = All-weaker (IsBelow cmp n.item) (AtMost cmp n.item) (λ y. AtMost-below o n.item y) (items_on rs) all } in (
        n,
        rw (← long) (slice_get-at rs n []),
        omega (arith, behind),
        ahead,
        rw (map-append item_on rs (n ∷ [])) (least_push n.item n.item k (items_on rs) (omega (arith, items_long)) least (AtMost-same o n.item)),
        drop_all (suc k) (rs ++ n ∷ []) (omega (arith, long, length-append rs (n ∷ []))),
      )

  -- what is known of the last that is named
  record LastNamed (x : T) (k more : ℕ) (pre : List ℕ) (d : ℕ) (rs : List (Candidate T)) : Type 0 where
    p : ℕ
    last : Candidate T
    at : slice_get rs p ≡ Some last
    from_end : p + 1 + k ≡ length rs
    says : last.behind ≡ suc d + slack more pre
    popped : IsBelow cmp x last.item → IsPopped cmp x (k + suc d) more pre rs
    stopped : (n : Candidate T) → n.item ≡ x → n.behind ≡ suc k → n.ahead ≡ 0 → AtMost cmp last.item x
        → IsMonotonicQueue cmp more (pre ++ d ∷ k ∷ []) (slice_set rs p (record last { ahead = suc k }) ++ n ∷ [])

  -- By induction on those named before it.
  the_last : (x : T) (k more : ℕ) (pre : List ℕ) (d : ℕ) (rs : List (Candidate T)) → IsPopped cmp x k more (pre ++ d ∷ []) rs → LastNamed x k more pre d rs
  the_last x k more [] d rs c =
      let (r, at, behind, leads, least, (long, above)) = c in
      let within : d < length rs = slice_get_within rs d r at in
      let count : length rs - suc d ≡ k = sym (length-drop (suc d) rs) ∙ long in
      record {
        p = d;
        last = r;
        at = at;
        from_end = omega (arith, within, count);
        says = behind;
        popped = λ below. (omega (arith, within, count), All-weaker (AtMost cmp r.item) (IsBelow cmp x) (λ y. IsBelow-trans o x r.item y below) (items_on rs) least.at_most);
        stopped = λ n is behind_n ahead_n over.
            let r' : Candidate T = record r { ahead = suc k } in
            let set_long : length (slice_set rs d r') ≡ length rs = length-set rs d r' in
            let past : drop (suc d) (slice_set rs d r' ++ n ∷ []) ≡ drop (suc d) rs ++ n ∷ [] =
            drop-append-le (suc d) (slice_set rs d r') (n ∷ []) (omega (arith, within, set_long)) ∙ ap (λ ys. ys ++ n ∷ []) (drop-set-lt (suc d) rs d r' (omega arith)) in
            let all : items_on (slice_set rs d r' ++ n ∷ []) ≡ items_on rs ++ n.item ∷ [] = map-append item_on (slice_set rs d r') (n ∷ []) ∙ ap (λ ys. ys ++ n.item ∷ []) (map-set item_on rs d r r' at refl) in (
              r',
              slice_get-append_left d (slice_set rs d r') (n ∷ []) (omega (arith, within, set_long)) ∙ set_read rs d r r' at,
              behind,
              refl,
              rw all (least_push r.item n.item d (items_on rs) (rw (length-map {A = Candidate T}) (omega (arith, within))) least (rw is over)),
              rw past (top k (drop (suc d) rs) n long (rw is above) behind_n ahead_n),
            );
      }
  the_last x k more (e ∷ pre) d rs c =
      let (r, at, behind, leads, least, rest) = c in
      let within : e < length rs = slice_get_within rs e r at in
      let ih = the_last x k 0 pre d (drop (suc e) rs) rest in
      let there : slice_get rs (suc e + ih.p) ≡ Some ih.last = sym (slice_get-drop (suc e) ih.p rs) ∙ ih.at in
      record {
        p = suc e + ih.p;
        last = ih.last;
        at = there;
        from_end = omega (arith, within, ih.from_end, length-drop (suc e) rs);
        says = ih.says ∙ ap (λ s. suc d + s) (slack-0 pre);
        popped = λ below. (r, at, behind, leads_before r pre d leads, least, ih.popped below);
        stopped = λ n is behind_n ahead_n over.
            let r' : Candidate T = record ih.last { ahead = suc k } in
            let i : ℕ = suc e + ih.p in
            let set_long : length (slice_set rs i r') ≡ length rs = length-set rs i r' in
            let past : drop (suc e) (slice_set rs i r' ++ n ∷ []) ≡ slice_set (drop (suc e) rs) ih.p r' ++ n ∷ [] =
            drop-append-le (suc e) (slice_set rs i r') (n ∷ []) (omega (arith, within, set_long)) ∙ ap (λ ys. ys ++ n ∷ []) (drop-set-add (suc e) rs ih.p r') in
            let all : items_on (slice_set rs i r' ++ n ∷ []) ≡ items_on rs ++ n.item ∷ [] = map-append item_on (slice_set rs i r') (n ∷ []) ∙ ap (λ ys. ys ++ n.item ∷ []) (map-set item_on rs i ih.last r' there refl) in
            let over_r : AtMost cmp r.item n.item = upto o r.item ih.last.item n.item (All-at (AtMost cmp r.item) rs i ih.last there least.at_most) (rw is over) in (
              r,
              slice_get-append_left e (slice_set rs i r') (n ∷ []) (omega (arith, within, set_long)) ∙ set_other rs i e r' (omega arith) ∙ at,
              behind,
              leads_next r pre d k leads,
              rw all (least_push r.item n.item e (items_on rs) (rw (length-map {A = Candidate T}) (omega (arith, within))) least over_r),
              rw past (ih.stopped n is behind_n ahead_n over),
            );
      }

  -- The oldest leaves.
  pub forgets : (q : Candidate T) (rs : List (Candidate T)) (first after compared most : ℕ) → HoldsMonotonicQueue cmp (q ∷ rs) first compared most → (first ≡ 1 → after ≡ q.ahead) → (1 < first → after ≡ first - 1) → HoldsMonotonicQueue cmp rs after compared most
  forgets q rs first after compared most is at_one else_ = go is.places is.more is.is_queue is.first_is is.counted where
    go : (ds : List ℕ) (more : ℕ) → IsMonotonicQueue cmp more ds (q ∷ rs) → first ≡ next ds → compared + length ds ≤ most → HoldsMonotonicQueue cmp rs after compared most
    go [] more queue first_is counted = absurd (let some : q ∷ rs ≡ [] = queue in cc)
    go (zero ∷ ds) more queue first_is counted =
        let (r, at, behind, ahead, least, rest) = queue in
        let same_candidate : q ≡ r = let e : Some q ≡ Some r = at in cc in
        record { places = ds; more = 0; is_queue = rest; first_is = at_one first_is ∙ (rw same_candidate ahead); counted = omega (arith, counted) }
    go (suc d ∷ ds) more queue first_is counted =
        let (r, at, behind, ahead, least, rest) = queue in
        let least' : IsLeastFrom cmp r.item d (items_on rs) = record { below = All-tail (IsBelow cmp r.item) q.item (take d (items_on rs)) least.below; at_most = All-tail (AtMost cmp r.item) q.item (items_on rs) least.at_most } in
        record {
          places = d ∷ ds;
          more = suc more;
          is_queue = (r, at, omega (arith, behind), ahead, least', rest);
          first_is = else_ (omega (arith, first_is)) ∙ omega (arith, first_is);
          counted = counted;
        }

  -- What is read at the first place is the least, and the first of those that equal it.
  pub least_read : (rs : List (Candidate T)) (first compared most : ℕ) → HoldsMonotonicQueue cmp rs first compared most → (first ≡ 0 → ⊥)
      → (rs ≡ [] → ⊥) × (first - 1 < length rs) × ((r : Candidate T) → slice_get rs (first - 1) ≡ Some r → IsFirstLeast cmp (items_on rs) r.item)
  least_read rs first compared most is some = go is.places is.more is.is_queue is.first_is where
    go : (ds : List ℕ) (more : ℕ) → IsMonotonicQueue cmp more ds rs → first ≡ next ds
        → (rs ≡ [] → ⊥) × (first - 1 < length rs) × ((r : Candidate T) → slice_get rs (first - 1) ≡ Some r → IsFirstLeast cmp (items_on rs) r.item)
    go [] more queue first_is = absurd (some first_is)
    go (d ∷ ds) more queue first_is =
        let (r, at, behind, ahead, least, rest) = queue in
        let e : first - 1 ≡ d = omega (arith, first_is) in
        let within : d < length rs = slice_get_within rs d r at in (
          λ none. omega (arith, ap length none, within),
          rw e within,
          λ q at_q.
              let same_candidate : r ≡ q = let both : Some r ≡ Some q = sym at ∙ (rw e at at_q) in cc in
              let read : slice_get (items_on rs) d ≡ Some q.item = slice_get-map item_on rs d ∙ ap (option_map item_on) (at ∙ ap Some same_candidate) in
              record { place = d; stands = read; least = rw same_candidate at least },
        )

  -- Nothing is popped yet.
  pub reaches : (all rs : List (Candidate T)) (r : Candidate T) (first left compared most : ℕ) → all ≡ rs ++ r ∷ [] → left + 1 ≡ length all → HoldsMonotonicQueue cmp rs first compared most → Reaches cmp all first left compared most
  reaches all rs r first left compared most is left_is holds = record {
    rs = rs;
    r = r;
    all_is = is;
    k = 0;
    left_is = omega (arith, left_is, ap length is, length-append rs (r ∷ []));
    places = holds.places;
    more = holds.more;
    is_popped = begins r.item holds.more holds.places rs holds.is_queue;
    first_is = λ some. holds.first_is;
    counted = holds.counted;
  }

  -- Other counts serve as well where they are as far apart.
  abbrev recounted : {all : List (Candidate T)} {first left compared most : ℕ} (so : Reaches cmp all first left compared most) (compared' most' : ℕ) → compared' + length so.places ≤ most' → Reaches cmp all first left compared' most'
  recounted so compared' most' counted = record { rs = so.rs; r = so.r; all_is = so.all_is; k = so.k; left_is = so.left_is; places = so.places; more = so.more; is_popped = so.is_popped; first_is = so.first_is; counted = counted }

  -- A greater number serves as well.
  pub recounted_to : {rs : List (Candidate T)} {first compared most most' : ℕ} → HoldsMonotonicQueue cmp rs first compared most → most ≤ most' → HoldsMonotonicQueue cmp rs first compared most'
  recounted_to is more = record { places = is.places; more = is.more; is_queue = is.is_queue; first_is = is.first_is; counted = omega (arith, is.counted, more) }

  -- What the item at the last place tells of those that are left, once it was compared with the newest.
  pub record Turn (all : List (Candidate T)) (first left compared most : ℕ) (x y : Candidate T) : Type 0 where
    pub stops : AtMost cmp x.item y.item → Stops cmp all first left (compared + 1) (most + 1)
    pub ends_at : left ≤ x.behind → IsBelow cmp y.item x.item → Stops cmp all first 0 (compared + 1) (most + 1)
    pub goes : x.behind < left → IsBelow cmp y.item x.item → (0 < x.behind) × Reaches cmp all first (left - x.behind) (compared + 1) most

  -- Which items these are.
  pub record Seen (all : List (Candidate T)) (first left n compared most : ℕ) (so : Reaches cmp all first left compared most) : Type 0 where
    pub last : Candidate T
    pub read : slice_get all (left - 1) ≡ Some last
    pub read_newest : slice_get all (n - 1) ≡ Some so.r
    pub tells : Turn all first left compared most last so.r

  below_top : (x : T) (k more : ℕ) (ds : List ℕ) (rs : List (Candidate T)) → IsPopped cmp x k more ds rs → k ≤ length rs
  below_top x k more [] rs c = omega (arith, c.0)
  below_top x k more (d ∷ ds) rs c =
      let (r, at, behind, leads, least, rest) = c in
      omega (arith, below_top x k 0 ds (drop (suc d) rs) rest, length-drop (suc d) rs)

  -- Where one is named, there is more than what was popped.
  below_some : (x : T) (k more d : ℕ) (ds : List ℕ) (rs : List (Candidate T)) → IsPopped cmp x k more (d ∷ ds) rs → k < length rs
  below_some x k more d ds rs c =
      let (r, at, behind, leads, least, rest) = c in
      omega (arith, below_top x k 0 ds (drop (suc d) rs) rest, length-drop (suc d) rs, slice_get_within rs d r at)

  pub seen : (all : List (Candidate T)) (first left n compared most : ℕ) (so : Reaches cmp all first left compared most) → n ≡ length all → 0 < left → Seen all first left n compared most so
  seen all first left n compared most so n_is more_left = elim (ends so.places) [ inl none ↦ absurd (all_popped none) | inr e ↦ named e.0 e.1 e.2 ] where
    long : n ≡ length so.rs + 1
    long = n_is ∙ ap length so.all_is ∙ length-append so.rs (so.r ∷ [])

    all_popped : so.places ≡ [] → ⊥
    all_popped none =
        let c : IsPopped cmp so.r.item so.k so.more [] so.rs = rw none at so.is_popped in
        omega (arith, c.0, long, more_left, so.left_is)

    named : (pre : List ℕ) (d : ℕ) → so.places ≡ pre ++ d ∷ [] → Seen all first left n compared most so
    named pre d is =
        let c : IsPopped cmp so.r.item so.k so.more (pre ++ d ∷ []) so.rs = rw is at so.is_popped in
        let it = the_last so.r.item so.k so.more pre d so.rs c in
        let at_p : left - 1 ≡ it.p = omega (arith, it.from_end, so.left_is) in
        let in_front : it.p < length so.rs = omega (arith, it.from_end) in
        let first_is : first ≡ next (pre ++ d ∷ []) = so.first_is (λ none. omega (arith, ap length (sym is ∙ none), length-append pre (d ∷ []))) ∙ ap next is in
        let newest : n - 1 ≡ length so.rs = omega (arith, long) in
        record {
          last = it.last;
          read = rw (at_p, so.all_is) (slice_get-append_left it.p so.rs (so.r ∷ []) in_front ∙ it.at);
          read_newest = rw newest (rw so.all_is (slice_get-at so.rs so.r []));
          tells = record {
            stops = λ h. (recounted so (compared + 1) (most + 1) (omega (arith, so.counted)), inr (it.p, it.last, it.from_end, it.at, h));
            ends_at = λ here h. alone pre d it.last.behind it.says here (it.popped h);
            goes = λ less h. passes pre d is first_is it.last it.says less (it.popped h);
          };
        } where
          alone : (pre : List ℕ) (d behind : ℕ) → behind ≡ suc d + slack so.more pre → left ≤ behind → IsPopped cmp so.r.item (so.k + suc d) so.more pre so.rs → Stops cmp all first 0 (compared + 1) (most + 1)
          alone [] d behind says here popped = (
            record { rs = so.rs; r = so.r; all_is = so.all_is; k = so.k + suc d; left_is = omega (arith, popped.0); places = []; more = so.more; is_popped = popped; first_is = λ some. absurd (some refl); counted = omega (arith, so.counted) },
            inl refl,
          )
          alone (e ∷ pre) d behind says here popped = absurd (omega (arith, says, here, so.left_is, below_some so.r.item (so.k + suc d) so.more e pre so.rs popped))

          passes : (pre : List ℕ) (d : ℕ) → so.places ≡ pre ++ d ∷ [] → first ≡ next (pre ++ d ∷ []) → (last : Candidate T) → last.behind ≡ suc d + slack so.more pre → last.behind < left → IsPopped cmp so.r.item (so.k + suc d) so.more pre so.rs
              → (0 < last.behind) × Reaches cmp all first (left - last.behind) (compared + 1) most
          passes [] d is first_is last says less popped = absurd (omega (arith, says, less, popped.0, so.left_is))
          passes (e ∷ pre) d is first_is last says less popped =
              let fits = below_top so.r.item (so.k + suc d) so.more (e ∷ pre) so.rs popped in (
                omega (arith, says),
                record {
                  rs = so.rs;
                  r = so.r;
                  all_is = so.all_is;
                  k = so.k + suc d;
                  left_is = omega (arith, fits, says, so.left_is);
                  places = e ∷ pre;
                  more = so.more;
                  is_popped = popped;
                  first_is = λ some. first_is;
                  counted = omega (arith, so.counted, ap length is, length-append (e ∷ pre) (d ∷ []));
                },
              )

  -- A turn of the walk knows both by what it reads there.
  pub turn : {all : List (Candidate T)} {first left n compared most : ℕ} (so : Reaches cmp all first left compared most) → n ≡ length all → 0 < left → {o p : Option (Bor (Candidate T))} {x y : Bor (Candidate T)}
      → option_copied o ≡ slice_get all (index_at (length all) (left - 1)) → o ≡ Some x → option_copied p ≡ slice_get all (index_at (length all) (n - 1)) → p ≡ Some y → Turn all first left compared most x.now y.now
  turn {all} {first} {left} {n} {compared} {most} so n_is more_left {o} {p} {x} {y} copied is copied' is' =
      let s = seen all first left n compared most so n_is more_left in
      rw (read_is all _ o x s.last copied is s.read, read_is all _ p y so.r copied' is' s.read_newest) s.tells

  -- Where the newest is the least, it is the whole queue.
  pub joins_alone : {all : List (Candidate T)} {first left n compared most : ℕ} → n ≡ length all → Stops cmp all first left compared most → left ≡ 0
      → (r : Candidate T) × (slice_get all (n - 1) ≡ Some r) × HoldsMonotonicQueue cmp (slice_set all (n - 1) (record r { behind = n - left; ahead = 0 })) n compared (most + 1)
      × (items_on (slice_set all (n - 1) (record r { behind = n - left; ahead = 0 })) ≡ items_on all)
  joins_alone {all} {first} {left} {n} {compared} {most} n_is (so, stop) whole =
      let long : n ≡ length so.rs + 1 = n_is ∙ ap length so.all_is ∙ length-append so.rs (so.r ∷ []) in
      let newest : n - 1 ≡ length so.rs = omega (arith, long) in
      let q : Candidate T = record so.r { behind = n - left; ahead = 0 } in
      let written : slice_set all (n - 1) q ≡ so.rs ++ q ∷ [] = rw newest (rw so.all_is (set-append_seam so.rs so.r [] q)) in
      let below : All (IsBelow cmp so.r.item) (items_on so.rs) = elim stop [ inl none ↦ (let c : IsPopped cmp so.r.item so.k so.more [] so.rs = rw none at so.is_popped in c.1) | inr e ↦ absurd (omega (arith, e.2, long, whole, so.left_is)) ] in (
        so.r,
        rw newest (rw so.all_is (slice_get-at so.rs so.r [])),
        record {
          places = so.k ∷ [];
          more = 0;
          is_queue = rw written (top so.k so.rs q (omega (arith, long, whole, so.left_is)) below (omega (arith, long, so.left_is)) refl);
          first_is = omega (arith, whole, so.left_is);
          counted = omega (arith, so.counted);
        },
        rw written (map-append item_on so.rs (q ∷ []) ∙ sym (ap items_on so.all_is ∙ map-append item_on so.rs (so.r ∷ []))),
      )

  -- The newest is linked with the last that is still named, and both are read where they stand.
  abbrev pub Joins : (all : List (Candidate T)) (first left n compared most : ℕ) → Type 0
  Joins all first left n compared most =
      (r last : Candidate T) × (slice_get all (n - 1) ≡ Some r) × (left < n)
      × (slice_get (slice_set all (n - 1) (record r { behind = n - left; ahead = 0 })) (left - 1) ≡ Some last)
      × HoldsMonotonicQueue cmp (slice_set (slice_set all (n - 1) (record r { behind = n - left; ahead = 0 })) (left - 1) (record last { ahead = n - left })) first compared (most + 1)
      × (items_on (slice_set (slice_set all (n - 1) (record r { behind = n - left; ahead = 0 })) (left - 1) (record last { ahead = n - left })) ≡ items_on all)

  -- Else it comes after the last that is still named.
  pub joins_after : {all : List (Candidate T)} {first left n compared most : ℕ} → n ≡ length all → Stops cmp all first left compared most → (left ≡ 0 → ⊥) → Joins all first left n compared most
  joins_after {all} {first} {left} {n} {compared} {most} n_is (so, stop) not_whole = elim (ends so.places) [ inl none ↦ absurd (all_popped none) | inr e ↦ named e.0 e.1 e.2 stop ] where
    long : n ≡ length so.rs + 1
    long = n_is ∙ ap length so.all_is ∙ length-append so.rs (so.r ∷ [])

    all_popped : so.places ≡ [] → ⊥
    all_popped none =
        let c : IsPopped cmp so.r.item so.k so.more [] so.rs = rw none at so.is_popped in
        not_whole (omega (arith, c.0, long, so.left_is))

    named : (pre : List ℕ) (d : ℕ) → so.places ≡ pre ++ d ∷ [] → (so.places ≡ []) ⊎ ((p : ℕ) × (last : Candidate T) × (p + 1 + so.k ≡ length so.rs) × (slice_get so.rs p ≡ Some last) × AtMost cmp last.item so.r.item) → Joins all first left n compared most
    named pre d is (inl none) = absurd (all_popped none)
    named pre d is (inr (p, last, from_end, at, over)) =
        let c : IsPopped cmp so.r.item so.k so.more (pre ++ d ∷ []) so.rs = rw is at so.is_popped in
        let it = the_last so.r.item so.k so.more pre d so.rs c in
        let p_is : p ≡ it.p = omega (arith, it.from_end, from_end) in
        let last_is : it.last ≡ last = let both : Some it.last ≡ Some last = sym it.at ∙ (rw p_is at at) in cc in
        let far : n - left ≡ suc so.k = omega (arith, long, from_end, so.left_is) in
        let q : Candidate T = record so.r { behind = n - left; ahead = 0 } in
        let l : Candidate T = record it.last { ahead = suc so.k } in
        let newest : n - 1 ≡ length so.rs = omega (arith, long) in
        let at_p : left - 1 ≡ it.p = omega (arith, it.from_end, so.left_is) in
        let in_front : it.p < length so.rs = omega (arith, it.from_end) in
        let written : slice_set all (n - 1) q ≡ so.rs ++ q ∷ [] = rw newest (rw so.all_is (set-append_seam so.rs so.r [] q)) in
        let both : slice_set (so.rs ++ q ∷ []) it.p (record it.last { ahead = n - left }) ≡ slice_set so.rs it.p l ++ q ∷ [] = set-append_left so.rs (q ∷ []) it.p (record it.last { ahead = n - left }) in_front ∙ ap (λ b. slice_set so.rs it.p (record it.last { ahead = b }) ++ q ∷ []) far in (
          so.r,
          it.last,
          rw newest (rw so.all_is (slice_get-at so.rs so.r [])),
          omega (arith, long, from_end, so.left_is),
          rw (written, at_p) (slice_get-append_left it.p so.rs (q ∷ []) in_front ∙ it.at),
          record {
            places = pre ++ d ∷ so.k ∷ [];
            more = so.more;
            is_queue = rw (written, at_p, both) (it.stopped q refl far refl (rw last_is over));
            first_is = so.first_is all_popped ∙ ap next is ∙ next-append pre d so.k;
            counted = omega (arith, so.counted, ap length is, length-append pre (d ∷ []), length-append pre (d ∷ so.k ∷ []));
          },
          rw (written, at_p, both) (map-append item_on (slice_set so.rs it.p l) (q ∷ []) ∙ ap (λ xs. xs ++ so.r.item ∷ []) (map-set item_on so.rs it.p it.last l it.at refl) ∙ sym (ap items_on so.all_is ∙ map-append item_on so.rs (so.r ∷ []))),
        )

  -- Where all items are passed, no candidate is left.
  pub popped_all : (all : List (Candidate T)) (first left compared most : ℕ) → Reaches cmp all first left compared most → left ≡ 0 → Stops cmp all first left compared (most + 1)
  popped_all all first left compared most so whole = (recounted so compared (most + 1) (omega (arith, so.counted)), inl (elim (ends so.places) [ inl none ↦ none | inr e ↦ absurd (named e.0 e.1 e.2) ])) where
    named : (pre : List ℕ) (d : ℕ) → so.places ≡ pre ++ d ∷ [] → ⊥
    named pre d is =
        let c : IsPopped cmp so.r.item so.k so.more (pre ++ d ∷ []) so.rs = rw is at so.is_popped in
        let it = the_last so.r.item so.k so.more pre d so.rs c in
        omega (arith, it.from_end, whole, so.left_is)

  -- Where some are ranked after a place, the first of them is read so far ahead.
  pub first_read : (all : List (Candidate T)) (at first compared most : ℕ) → IsRanked cmp (drop (at + 1) all) first compared most → 0 < first → (y : Candidate T) × (slice_get all (at + first) ≡ Some y)
  first_read all at first compared most is some = go is.places is.is_queue is.first_is where
    go : (ds : List ℕ) → IsMonotonicQueue cmp 0 ds (drop (at + 1) all) → first ≡ next ds → (y : Candidate T) × (slice_get all (at + first) ≡ Some y)
    go [] queue first_is = absurd (omega (arith, first_is))
    go (d ∷ ds) queue first_is =
        let (r, there, behind, ahead, least, rest) = queue in
        let e : at + first ≡ at + 1 + d = omega (arith, first_is) in
        (r, rw e (sym (slice_get-drop (at + 1) d all) ∙ there))

  pub first_within : (all : List (Candidate T)) (at first compared most : ℕ) → IsRanked cmp (drop (at + 1) all) first compared most → 0 < first → at + first < length all
  first_within all at first compared most is some = let (y, there) = first_read all at first compared most is some in slice_get_within all (at + first) y there

  -- An item that isn't above the first ranked after it is the first itself.
  pub ranked_first : (all : List (Candidate T)) (at first compared compared' most most' : ℕ) (q : Candidate T) → slice_get all at ≡ Some q → IsRanked cmp (drop (at + 1) all) first compared most
      → ((y : Candidate T) → 0 < first → slice_get all (at + first) ≡ Some y → AtMost cmp q.item y.item) → compared' ≤ compared + 1 → most + 2 ≤ most'
      → IsRanked cmp (drop at (slice_set all at (record q { behind = 1; ahead = first }))) 1 compared' most'
  ranked_first all at first compared compared' most most' q here is over few more =
      let q' : Candidate T = record q { behind = 1; ahead = first } in
      let ys : List (Candidate T) = drop (at + 1) all in
      let from : drop at (slice_set all at q') ≡ q' ∷ ys = drop_written all at q q' here ∙ ap (λ n. q' ∷ drop n all) (sym (add-one at)) in
      rw from record {
        places = 0 ∷ is.places;
        is_queue = (q', refl, refl, is.first_is, record { below = All-nil (IsBelow cmp q.item); at_most = All-cons (AtMost cmp q.item) q.item (items_on ys) (AtMost-same o q.item) (above is.places is.is_queue is.first_is) }, is.is_queue);
        first_is = refl;
        counted = omega (arith, is.counted, few, more);
      } where
        above : (ds : List ℕ) → IsMonotonicQueue cmp 0 ds (drop (at + 1) all) → first ≡ next ds → All (AtMost cmp q.item) (items_on (drop (at + 1) all))
        above [] queue first_is = rw queue (All-nil (AtMost cmp q.item))
        above (d ∷ ds) queue first_is =
            let (r, there, behind, ahead, least, rest) = queue in
            let e : at + first ≡ at + 1 + d = omega (arith, first_is) in
            let read : slice_get all (at + first) ≡ Some r = rw e (sym (slice_get-drop (at + 1) d all) ∙ there) in
            All-weaker (AtMost cmp r.item) (AtMost cmp q.item) (λ z. upto o q.item r.item z (over r (omega (arith, first_is)) read)) (items_on (drop (at + 1) all)) least.at_most

  -- Behind an item that is above the first ranked after it, the first stays, one further behind.
  pub ranked_behind : (all : List (Candidate T)) (at first compared compared' most most' : ℕ) (q y : Candidate T) → slice_get all at ≡ Some q → IsRanked cmp (drop (at + 1) all) first compared most
      → 0 < first → slice_get all (at + first) ≡ Some y → IsBelow cmp y.item q.item → compared' ≤ compared + 1 → most + 2 ≤ most'
      → IsRanked cmp (drop at (slice_set all (at + first) (record y { behind = first + 1 }))) (first + 1) compared' most'
  ranked_behind all at first compared compared' most most' q y here is some there below few more = go is.places is.is_queue is.first_is is.counted where
    go : (ds : List ℕ) → IsMonotonicQueue cmp 0 ds (drop (at + 1) all) → first ≡ next ds → compared + length ds ≤ most
        → IsRanked cmp (drop at (slice_set all (at + first) (record y { behind = first + 1 }))) (first + 1) compared' most'
    go [] queue first_is counted = absurd (omega (arith, first_is))
    go (d ∷ ds) queue first_is counted =
        let (r, at_d, behind, ahead, least, rest) = queue in
        let ys : List (Candidate T) = drop (at + 1) all in
        let e : at + first ≡ at + 1 + d = omega (arith, first_is) in
        let same : y ≡ r = let both : Some y ≡ Some r = sym there ∙ (rw e (sym (slice_get-drop (at + 1) d all) ∙ at_d)) in cc in
        let r' : Candidate T = record y { behind = first + 1 } in
        let place : at + first ≡ at + suc d = omega (arith, first_is) in
        let from : drop at (slice_set all (at + first) r') ≡ q ∷ slice_set ys d r' =
        ap (λ n. drop at (slice_set all n r')) place ∙ drop-set-add at all (suc d) r' ∙ ap (λ zs. slice_set zs (suc d) r') (drop_from all at q here ∙ ap (λ n. q ∷ drop n all) (sym (add-one at))) in
        let at_y : slice_get ys d ≡ Some y = at_d ∙ ap Some (sym same) in
        let items : items_on (slice_set ys d r') ≡ items_on ys = map-set item_on ys d y r' at_y refl in
        rw from record {
          places = suc d ∷ ds;
          is_queue = (
            r',
            set_read ys d y r' at_y,
            omega (arith, first_is),
            rw same ahead,
            rw items (least_cons y.item q.item d (items_on ys) (rw same least) below),
            rw (drop-set-lt (suc d) ys d r' (omega arith)) rest,
          );
          first_is = omega (arith, first_is);
          counted = omega (arith, counted, few, more);
        }
