-- Parts of the objects, by their numbers, and how far a search among them has come.
-- Source: this project.
use Rattle.std.specs.Prelude.{◌≡◌, ℕ, ◌+◌, ◌-◌, ◌%◌, ◌^◌, ◌≤◌, ◌<◌, ◌==◌, ◌⊎◌, min, Bool, true, false, List, [], ◌∷◌, ◌++◌, length, set, map, replicate}
use Rattle.std.specs.Prelude.{Contains, sum_by, slice_get, slice_index_or, Option, Some}
use Rattle.std.specs.List.{flat_map}
use Rattle.hd_terms.specs.declared.Event.{Event}
use Rattle.hd_terms.specs.declared.Mode.{Mode}
use Rattle.hd_terms.specs.declared.Slot.{Slot}
use Rattle.hd_terms.specs.declared.Strength.{Strength}
use Rattle.hd_terms.specs.declared.Support.TheVariants as supports
use Rattle.hd_terms.specs.Ranks.{rank, given_by, weaker_of, IsPassedOn}
use Rattle.hd_terms.specs.Paths.{Edge}
use Rattle.hd_terms.specs.Dump.{Dump}
use Rattle.hd_terms.specs.EditedDump.{standing}
use Rattle.hd_terms.specs.Settled.{Reached, reached_at, unreached}
use Rattle.hd_strength.specs.declared.buckets.Offer.{Offer}
use Rattle.hd_strength.specs.declared.part.Part.{Part}
use Rattle.hd_strength.specs.declared.relaxing.Gain.{Gain}
use Rattle.hd_strength.specs.declared.rounds.Search.{Search}
use Rattle.hd_strength.specs.Buckets.{bucket, AddsTo}
use Rattle.hd_supports.specs.PackedReached.{reached_by_root}
use Rattle.hd_strength.specs.Found.{Findings, seen}
use Rattle.hd_strength.specs.Queue.{IsTaken}
use Rattle.hd_strength.specs.Rows.{edge_at}
use Rattle.hd_strength.specs.Growing.{rank_at, offer_at, AreHeld, HasEnded, IsHadOrPromised, IsGrowing, unreached_count}

-- an object is one of the part's own
pub record IsOwn (p : Part) (o : ℕ) : Type 0 where
  pub first : p.first ≤ o
  pub last : o < p.first + length p.found.list

-- what is found of one of its own
abbrev pub found_at : Part → ℕ → Reached
found_at p o = reached_at p.found.list (o - p.first)

-- how many objects of other parts a part remembers at most
abbrev pub cells : ℕ
cells = 32768

-- an object of another part is remembered as handed over: it is the last one of those that leave the same remainder
abbrev pub is_handed : Part → ℕ → Bool
is_handed p o = slice_index_or p.handed.items (o % cells) (o + 1) == o

-- a part of `len` objects from the first on, of which nothing is found yet
pub record IsNew (first len : ℕ) (whole : Bool) (p : Part) : Type 0 where
  pub same_first : p.first ≡ first
  pub found : p.found ≡ record { whole = whole; list = replicate len unreached }
  pub none_offered : (s : Strength) → bucket p.buckets s ≡ []
  pub none_queued : p.queue ≡ []
  pub handed : p.handed.items ≡ []
  pub count : p.count ≡ 0

-- the parts leave room for one another's objects, from one object on up to another. Each will have len objects of all n, or
-- those that are left, and the next part begins behind them
abbrev pub BeginInSteps : ℕ → ℕ → ℕ → List Part → ℕ → Type 0
BeginInSteps len n first [] end = first ≡ end
BeginInSteps len n first (p ∷ ps) end = (p.first ≡ first) × BeginInSteps len n (first + min len (n - first)) ps end

-- the parts begin in such steps from the first object on. They have no objects yet, and nothing is found
pub record AreBlank (len n : ℕ) (whole : Bool) (parts : List Part) (end : ℕ) : Type 0 where
  pub each : (k : ℕ) (p : Part) → slice_get parts k ≡ Some p → IsNew p.first 0 whole p × (p.first ≤ n)
  pub steps : BeginInSteps len n 0 parts end

-- each part has got its objects, if memory didn't run out
abbrev pub AreFilled : ℕ → ℕ → Bool → List Part → List Part → Type 0
AreFilled len n whole old new = (k : ℕ) (p q : Part) → slice_get old k ≡ Some p → slice_get new k ≡ Some q → q.failed ≡ false
    → IsNew p.first (min len (n - p.first)) whole q

-- the part with other findings
abbrev pub with_found : Part → Findings → Part
with_found p found = record {
  first = p.first;
  found = found;
  buckets = p.buckets;
  queue = p.queue;
  handed = p.handed;
  count = p.count;
  passed = p.passed;
  failed = p.failed;
}

-- how many of its own nothing reaches yet
abbrev pub unreached_of : Part → ℕ
unreached_of p = unreached_count p.found.list

-- how many of its own are still to be reached or to pass their strength on
abbrev pub to_do : Part → ℕ
to_do p = unreached_of p + length p.queue

-- how many objects of all parts nothing reaches yet
abbrev pub unreached_in : List Part → ℕ
unreached_in parts = sum_by unreached_of parts

-- how many objects of all parts are still to be reached or to pass their strength on
abbrev pub to_do_in : List Part → ℕ
to_do_in parts = sum_by to_do parts

-- what is found by all parts, in order
abbrev pub found_in : List Part → List Reached
found_in parts = flat_map (λ (p : Part). p.found.list) parts

-- what is found by each part
abbrev pub lists_in : List Part → List (List Reached)
lists_in parts = map (λ (p : Part). p.found.list) parts

-- from one object on, the parts have all up to another, one part behind the other
abbrev pub AreInRow : ℕ → List Part → ℕ → Type 0
AreInRow first [] end = first ≡ end
AreInRow first (p ∷ ps) end = (p.first ≡ first) × AreInRow (first + length p.found.list) ps end

-- one of the parts has an offer of a strength
pub record IsOfferedIn (parts : List Part) (s : Strength) (x : Offer) : Type 0 where
  pub index : ℕ
  pub part : Part
  pub there : slice_get parts index ≡ Some part
  pub made : Contains (bucket part.buckets s) x

-- no part has an object still to pass its strength on
abbrev pub IsDoneIn : List Part → ℕ → Type 0
IsDoneIn parts o = (k : ℕ) (p : Part) → slice_get parts k ≡ Some p → Contains p.queue o → ⊥

-- what a part says for itself: its objects are among those of the dump; those queued are its own, have the strength that is
-- being spread, and pass it on; no more stamps were given than objects can be reached; what is offered is offered by slots of
-- its own
pub record IsFit (dump : Dump) (s : Strength) (p : Part) : Type 0 where
  pub within : p.first + length p.found.list ≤ length dump.objects
  pub few : length dump.objects < 2 ^ 32
  pub queued : (o : ℕ) → Contains p.queue o → IsOwn p o × ((found_at p o).strength ≡ s) × IsPassedOn dump.mode s
  pub room : p.count + unreached_of p ≤ length dump.objects
  pub offered : (t : Strength) (x : Offer) → Contains (bucket p.buckets t) x → IsOwn p x.source

-- a part among others, of which `unreached` objects are unreached: it finds what is kept of its own, or the strengths alone; it
-- gave no lesser stamps; what it handed over is reached or offered the strength that is being spread
pub record IsPartOf (dump : Dump) (at : ℕ → ℕ → Option Edge) (ks : List Reached) (whole : Bool) (s : Strength) (unreached : ℕ)
    (offers : Strength → Offer → Type 0) (p : Part) : Type 0 where
  pub fit : IsFit dump s p
  pub alike : p.found.whole ≡ whole
  pub own : (o : ℕ) → IsOwn p o → found_at p o ≡ seen whole (reached_at ks o)
  pub stamps : (o : ℕ) → IsOwn p o → (reached_at ks o).stamp ≤ p.count
  pub room : p.count + unreached ≤ length dump.objects
  pub handed : (o : ℕ) → is_handed p o ≡ true → IsHadOrPromised at ks offers (rank s) o

-- a search by parts on its way. What is kept of the objects grows; slots are done of those objects that no part has still
-- to pass on, as far as something more holds of them
pub record IsSearching (dump : Dump) (log : List Event) (parts : List Part) (ks : List Reached) (whole : Bool) (s : Strength) (limit : ℕ)
    (IsDone : ℕ → ℕ → Type 0) : Type 0 where
  pub growing : IsGrowing (standing dump log) (edge_at dump log) ks (IsOfferedIn parts) s limit (λ o i. IsDoneIn parts o × IsDone o i)
  pub each : (k : ℕ) (p : Part) → slice_get parts k ≡ Some p → IsPartOf dump (edge_at dump log) ks whole s (unreached_in parts) (IsOfferedIn parts) p
  pub row : AreInRow 0 parts (length dump.objects)
  pub objects : length ks ≡ length dump.objects

-- slot i of object o is any slot: this always holds
pub record IsAny (o i : ℕ) : Type 0 where

-- if the object is o, the slot is one of its first n. Any slot of another object will do
abbrev pub IsBelow : ℕ → ℕ → ℕ → ℕ → Type 0
IsBelow o n p i = p ≡ o → i < n

-- parts of a search on its way, whatever is kept of the objects
pub record AreSearching (dump : Dump) (log : List Event) (whole : Bool) (s : Strength) (limit : ℕ) (IsDone : ℕ → ℕ → Type 0) (parts : List Part) : Type 0 where
  pub kept : List Reached
  pub holds : IsSearching dump log parts kept whole s limit IsDone

-- parts of a search have come to a strength: nothing is offered that is more
abbrev pub HaveComeTo : Dump → List Event → Bool → Strength → List Part → Type 0
HaveComeTo dump log whole s parts = AreSearching dump log whole s (rank s + 1) IsAny parts

-- they have accepted what was offered of that strength as well
abbrev pub HaveAccepted : Dump → List Event → Bool → Strength → List Part → Type 0
HaveAccepted dump log whole s parts = AreSearching dump log whole s (rank s) IsAny parts

-- a search has come to a strength, with all its parts
abbrev pub HasComeTo : Dump → List Event → Strength → Search → Type 0
HasComeTo dump log s search = HaveComeTo dump log search.whole s search.parts.items

-- a search has accepted what was offered of a strength, in all its parts
abbrev pub HasAccepted : Dump → List Event → Strength → Search → Type 0
HasAccepted dump log s search = HaveAccepted dump log search.whole s search.parts.items

-- whatever the other parts are, a search goes on when one part takes the place of another
abbrev pub GoesOn : Dump → List Event → Strength → (ℕ → ℕ → Type 0) → (ℕ → ℕ → Type 0) → Part → Part → Type 0
GoesOn dump log s WasDone IsDone old new = (whole : Bool) (parts : List Part) (k : ℕ) → slice_get parts k ≡ Some old
    → AreSearching dump log whole s (rank s + 1) WasDone parts → AreSearching dump log whole s (rank s + 1) IsDone (set parts k new)

-- a part has gone on, and has no more to do
pub record HasGoneOn (dump : Dump) (log : List Event) (s : Strength) (WasDone IsDone : ℕ → ℕ → Type 0) (old new : Part) : Type 0 where
  pub fit : IsFit dump s new
  pub goes_on : GoesOn dump log s WasDone IsDone old new
  pub no_more : to_do new ≤ to_do old

-- a part has relaxed: it has gone on, and has less to do if objects were queued
pub record HasRelaxed (dump : Dump) (log : List Event) (s : Strength) (old new : Part) : Type 0 where
  pub gone_on : HasGoneOn dump log s IsAny IsAny old new
  pub less : 0 < length old.queue → to_do new < to_do old

-- a part knows of an object that something reaches it: the object is one of its own and is reached, or it was handed over
pub record IsKnown (p : Part) (o : ℕ) : Type 0 where
  pub by : (IsOwn p o × (1 ≤ rank_at p.found.list (o - p.first))) ⊎ (is_handed p o ≡ true)

-- an edge gives something to an object that isn't known to be reached
pub record IsGain (at : ℕ → ℕ → Option Edge) (p : Part) (o i : ℕ) (s : Strength) (gain : Gain) : Type 0 where
  pub edge : Edge
  pub is : at o i ≡ Some edge
  pub target : gain.target ≡ edge.target
  pub strength : gain.strength ≡ weaker_of s (given_by edge.kind)
  pub unknown : IsOwn p edge.target → rank_at p.found.list (edge.target - p.first) ≡ 0

-- one of a part's own is reached by an edge from a slot of another object. Its stamp is the one after the given one, and what
-- is shown of it is kept. Nothing is said of the queue
pub record Keeps (show : Reached → Reached) (old new : Part) (s : Strength) (source : ℕ) (slot : Slot) (target stamp : ℕ) : Type 0 where
  pub kept : new.found ≡ record {
    whole = old.found.whole;
    list =
        set old.found.list (target - old.first) (show (record { strength = s; support = supports.Edge source slot; stamp = stamp + 1 }));
  }
  pub same_first : new.first ≡ old.first
  pub same_buckets : new.buckets ≡ old.buckets
  pub same_handed : new.handed ≡ old.handed
  pub counted : new.count ≡ stamp + 1

-- one of a part's own is reached by such an edge, and it is queued if it passes its strength on
pub record Reaches (show : Reached → Reached) (mode : Mode) (old new : Part) (s : Strength) (source : ℕ) (slot : Slot) (target stamp : ℕ) : Type 0 where
  pub keeps : Keeps show old new s source slot target stamp
  pub queued : IsPassedOn mode s → new.queue ≡ old.queue ++ target ∷ []
  pub not_queued : (IsPassedOn mode s → ⊥) → new.queue ≡ old.queue

-- a slot is passed over: if it has an edge, the target is known to be reached. Nothing changes
pub record IsPassedOver (at : ℕ → ℕ → Option Edge) (old new : Part) (o i : ℕ) : Type 0 where
  pub known : (e : Edge) → at o i ≡ Some e → IsKnown old e.target
  pub same : new ≡ old

-- the edge of a slot gives this strength, which its source has, and its target, one of the part's own, takes it
pub record IsAccepted (show : Reached → Reached) (mode : Mode) (at : ℕ → ℕ → Option Edge) (old new : Part) (s : Strength) (o i stamp : ℕ) : Type 0 where
  pub edge : Edge
  pub is : at o i ≡ Some edge
  pub gives : s ≡ weaker_of s (given_by edge.kind)
  pub own : IsOwn old edge.target
  pub unreached : rank_at old.found.list (edge.target - old.first) ≡ 0
  pub reaches : Reaches show mode old new s edge.source edge.slot edge.target stamp

-- what the edge of a slot gives is offered. If that is the strength which is being spread, its target may be handed over
pub record IsOffered (at : ℕ → ℕ → Option Edge) (old new : Part) (s : Strength) (o i : ℕ) : Type 0 where
  pub edge : Edge
  pub is : at o i ≡ Some edge
  pub strength : Strength
  pub gives : strength ≡ weaker_of s (given_by edge.kind)
  pub adds : AddsTo old.buckets new.buckets strength (offer_at o i)
  pub same_first : new.first ≡ old.first
  pub same_found : new.found ≡ old.found
  pub same_queue : new.queue ≡ old.queue
  pub same_count : new.count ≡ old.count
  pub handed : (t : ℕ) → is_handed new t ≡ true → (is_handed old t ≡ true) ⊎ ((t ≡ edge.target) × (strength ≡ s))

-- a slot is relaxed: it is passed over, its target takes what the edge gives, or that is offered
abbrev pub IsSlotRelaxed : Mode → (ℕ → ℕ → Option Edge) → Part → Part → Strength → ℕ → ℕ → Type 0
IsSlotRelaxed mode at old new s o i = IsPassedOver at old new o i ⊎ IsAccepted (seen old.found.whole) mode at old new s o i old.count
    ⊎ IsOffered at old new s o i

-- no more objects are noted as handed over than were and this one
pub record IsNoted (old new : Part) (o : ℕ) : Type 0 where
  pub first : new.first ≡ old.first
  pub found : new.found ≡ old.found
  pub buckets : new.buckets ≡ old.buckets
  pub queue : new.queue ≡ old.queue
  pub count : new.count ≡ old.count
  pub handed : (t : ℕ) → is_handed new t ≡ true → (is_handed old t ≡ true) ⊎ (t ≡ o)

-- a part is as it was but for its queue, with no more objects noted as handed over
pub record IsSameBut (old new : Part) : Type 0 where
  pub first : new.first ≡ old.first
  pub found : new.found ≡ old.found
  pub buckets : new.buckets ≡ old.buckets
  pub handed : (o : ℕ) → is_handed new o ≡ true → is_handed old o ≡ true
  pub count : new.count ≡ old.count

-- an object is taken out of what is queued
pub record IsTakenOut (old new : Part) (o : ℕ) : Type 0 where
  pub taken : IsTaken old.queue new.queue o
  pub same : IsSameBut old new

-- nothing is queued, before and after
pub record HasNoneQueued (old new : Part) : Type 0 where
  pub none : old.queue ≡ []
  pub still : new.queue ≡ []
  pub same : IsSameBut old new

-- part k has an object
pub record IsHolder (parts : List Part) (o k : ℕ) : Type 0 where
  pub part : Part
  pub there : slice_get parts k ≡ Some part
  pub own : IsOwn part o

-- one of the parts has an object
pub record IsHeldIn (parts : List Part) (o : ℕ) : Type 0 where
  pub index : ℕ
  pub holder : IsHolder parts o index

-- an object is reached, by what its part found
pub record IsReachedIn (parts : List Part) (o : ℕ) : Type 0 where
  pub index : ℕ
  pub holder : IsHolder parts o index
  pub reached : 1 ≤ rank (found_at holder.part o).strength

-- an object was reached, or is reached now
abbrev pub IsReachedOrNot : (Reached → Reached) → Mode → Part → Part → Strength → ℕ → Slot → ℕ → ℕ → Type 0
IsReachedOrNot show mode old new s source slot target stamp =
    ((1 ≤ rank (found_at old target).strength) × (new ≡ old))
    ⊎ ((rank (found_at old target).strength ≡ 0) × Reaches show mode old new s source slot target stamp)

-- one of the parts has an offer of a strength, and this is that part's last stamp
pub record IsMade (parts : List Part) (s : Strength) (x : Offer) (stamp : ℕ) : Type 0 where
  pub offered : IsOfferedIn parts s x
  pub last : offered.part.count ≡ stamp

-- a search is at least as far as before: it has as many parts, keeps as much of each object, and has no more to do
pub record IsAsFar (old new : Search) : Type 0 where
  pub whole : new.whole ≡ old.whole
  pub count : length new.parts.items ≡ length old.parts.items
  pub no_more : to_do_in new.parts.items ≤ to_do_in old.parts.items

-- the parts have the same offers
abbrev pub HaveSameOffers : List Part → List Part → Type 0
HaveSameOffers old new = (k : ℕ) (p' : Part) → slice_get new k ≡ Some p' → (p : Part) × (slice_get old k ≡ Some p) × (p'.buckets ≡ p.buckets)

-- the target of an offer is reached, if it wasn't before; all offers stay
pub record IsTried (dump : Dump) (log : List Event) (s : Strength) (x : Offer) (old new : Search) : Type 0 where
  pub searching : HasComeTo dump log s new
  pub reached : (e : Edge) → edge_at dump log x.source x.index ≡ Some e → IsReachedIn new.parts.items e.target
  pub same_offers : HaveSameOffers old.parts.items new.parts.items
  pub as_far : IsAsFar old new

-- none of the first parts has an offer of a strength
abbrev pub AreNoneOffered : List Part → Strength → ℕ → Type 0
AreNoneOffered parts s n = (k : ℕ) (p : Part) → k < n → slice_get parts k ≡ Some p → bucket p.buckets s ≡ []

-- no part has objects that wait
abbrev pub AreQuiet : List Part → Type 0
AreQuiet parts = (k : ℕ) (p : Part) → slice_get parts k ≡ Some p → p.queue ≡ []

-- one of the parts has objects that wait
pub record IsAnyQueued (parts : List Part) : Type 0 where
  pub index : ℕ
  pub part : Part
  pub there : slice_get parts index ≡ Some part
  pub some : 0 < length part.queue

-- each part is fit
abbrev pub AreFit : Dump → Strength → List Part → Type 0
AreFit dump s parts = (k : ℕ) (p : Part) → slice_get parts k ≡ Some p → IsFit dump s p

-- each part has relaxed, if memory didn't run out
abbrev pub HaveEachRelaxed : Dump → List Event → Strength → List Part → List Part → Type 0
HaveEachRelaxed dump log s old new = (k : ℕ) (p q : Part) → slice_get old k ≡ Some p → slice_get new k ≡ Some q → q.failed ≡ false → HasRelaxed dump log s p q

-- memory ran out in no part
abbrev pub HaveNotFailed : List Part → Type 0
HaveNotFailed parts = (k : ℕ) (p : Part) → slice_get parts k ≡ Some p → p.failed ≡ false

-- in the end the parts find settled strengths of all objects, or what is seen of these
pub record HaveFound (dump : Dump) (log : List Event) (whole : Bool) (parts : List Part) : Type 0 where
  pub kept : List Reached
  pub found : found_in parts ≡ map (seen whole) kept
  pub alike : (k : ℕ) (p : Part) → slice_get parts k ≡ Some p → p.found.whole ≡ whole
  pub holds : HasEnded dump log kept

-- a part that finds what is kept of its own, and has nothing else yet
pub record IsFresh (dump : Dump) (ks : List Reached) (whole : Bool) (p : Part) : Type 0 where
  pub alike : p.found.whole ≡ whole
  pub own : (o : ℕ) → IsOwn p o → found_at p o ≡ seen whole (reached_at ks o)
  pub within : p.first + length p.found.list ≤ length dump.objects
  pub none_offered : (s : Strength) → bucket p.buckets s ≡ []
  pub none_queued : p.queue ≡ []
  pub handed : p.handed.items ≡ []
  pub count : p.count ≡ 0

-- the beginning of a search: the first n roots hold their objects, nothing else is reached, and the parts find what is kept.
-- The number of objects has 32 bits
pub record IsHolding (dump : Dump) (log : List Event) (parts : List Part) (ks : List Reached) (whole : Bool) (n : ℕ) : Type 0 where
  pub few : length dump.objects < 2 ^ 32
  pub held : AreHeld dump log ks n
  pub each : (k : ℕ) (p : Part) → slice_get parts k ≡ Some p → IsFresh dump ks whole p
  pub row : AreInRow 0 parts (length dump.objects)
  pub objects : length ks ≡ length dump.objects

-- parts at the beginning of a search, whatever is kept of the objects
pub record AreHolding (dump : Dump) (log : List Event) (whole : Bool) (n : ℕ) (parts : List Part) : Type 0 where
  pub kept : List Reached
  pub holds : IsHolding dump log parts kept whole n

-- each part keeps all of its objects
abbrev pub AreWhole : List Part → Type 0
AreWhole parts = (k : ℕ) (p : Part) → slice_get parts k ≡ Some p → p.found.whole ≡ true

-- of an object a root is kept that holds it, by its part, and nothing else changes
pub record IsHeldBy (old new : List Part) (o root : ℕ) : Type 0 where
  pub index : ℕ
  pub holder : IsHolder old o index
  pub is : new ≡ set old index
      (with_found holder.part (record {
        whole = holder.part.found.whole;
        list = set holder.part.found.list (o - holder.part.first)
            (seen holder.part.found.whole (reached_by_root root));
      }))

-- a part is ready to queue objects: their numbers have 32 bits, and none is queued yet
pub record IsReady (p : Part) : Type 0 where
  pub few : p.first + length p.found.list < 2 ^ 32
  pub none_queued : p.queue ≡ []

-- each part is ready
abbrev pub AreReady : List Part → Type 0
AreReady parts = (k : ℕ) (p : Part) → slice_get parts k ≡ Some p → IsReady p

-- the objects of a part that are reached are queued, and nothing else
pub record HasQueued (old new : Part) : Type 0 where
  pub same : IsSameBut old new
  pub reached : (o : ℕ) → Contains new.queue o → IsOwn new o × (1 ≤ rank (found_at new o).strength)
  pub all : (o : ℕ) → IsOwn new o → 1 ≤ rank (found_at new o).strength → Contains new.queue o

-- each part has queued its objects that are reached, if memory didn't run out
abbrev pub HaveEachQueued : List Part → List Part → Type 0
HaveEachQueued old new = (k : ℕ) (p q : Part) → slice_get old k ≡ Some p → slice_get new k ≡ Some q → q.failed ≡ false → HasQueued p q
