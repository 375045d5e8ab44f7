-- A repair on its way: what is kept, what is offered, and what is still to be looked at.
use Rattle.std.specs.Prelude.{◌≡◌, ◌≢◌, ℕ, ◌+◌, ◌-◌, ◌*◌, ◌^◌, ◌≤◌, ◌<◌, ◌⊎◌, List, [], ◌∷◌, ◌++◌, length, Contains, true, sum_by}
use Rattle.hd_terms.specs.declared.Mode.{Mode}
use Rattle.hd_terms.specs.declared.Strength.{Strength}
use Rattle.hd_terms.specs.declared.Strength.TheVariants as strengths
use Rattle.hd_terms.specs.declared.Support.{Support}
use Rattle.hd_terms.specs.declared.Support.TheVariants as supports
use Rattle.hd_terms.specs.declared.Slot.{Slot}
use Rattle.hd_terms.specs.Ranks.{rank, given_by, weaker_of}
use Rattle.hd_terms.specs.Paths.{Edge, RootEntry, Standing}
use Rattle.hd_terms.specs.Chains.{NoneTwice}
use Rattle.hd_terms.specs.Settled.{Reached, reached_at, PassesOn, IsBefore}
use Rattle.hd_terms.specs.EdgeRows.{MarkedEdge, MarkedRoot, Rows}
use Rattle.hd_terms.specs.Regions.{StrengthChange, changed_objects}
use Rattle.hd_repair.specs.declared.offers.Offer.{Offer}
use Rattle.hd_repair.specs.declared.spreading.Round.{Round}
use Rattle.hd_repair.specs.Offering.{AddsOffer}

-- the rank kept of an object
abbrev pub rank_at : List Reached → ℕ → ℕ
rank_at ks o = rank (reached_at ks o).strength

-- what an edge gives its target
abbrev pub offered_strength : List Reached → Edge → Strength
offered_strength ks e = weaker_of (reached_at ks e.source).strength (given_by e.kind)

-- the standing edge from a slot of source to o gives o at least s
pub record Gives (g : Standing) (ks : List Reached) (o source : ℕ) (slot : Slot) (s : Strength) (e : Edge) : Type 0 where
  pub stands : Contains g.edges e
  pub from_source : e.source ≡ source
  pub from_slot : e.slot ≡ slot
  pub to_object : e.target ≡ o
  pub passes_on : PassesOn g.mode (reached_at ks source)
  pub enough : rank s ≤ rank (weaker_of (reached_at ks source).strength (given_by e.kind))

-- what stands gives o at least s, by this support
abbrev pub IsBacked : Standing → List Reached → ℕ → Strength → Support → Type 0
IsBacked g ks o s supports.Nothing = s ≡ strengths.Unreachable
IsBacked g ks o s (supports.Root n) = Contains g.roots (record { number = n; target = o }) × (s ≡ strengths.Strong)
IsBacked g ks o s (supports.Edge source slot) = (e : Edge) × Gives g ks o source slot s e

-- a source of support comes before the object
abbrev pub IsInOrder : List Reached → Reached → Support → Type 0
IsInOrder ks k supports.Nothing = Unit {0}
IsInOrder ks k (supports.Root n) = Unit {0}
IsInOrder ks k (supports.Edge source slot) = IsBefore (reached_at ks source) k

-- one of the offers gives o a rank of at least n
pub record IsOffered (offers : List Offer) (o n : ℕ) : Type 0 where
  pub offer : Offer
  pub made : Contains offers offer
  pub to_object : offer.target ≡ o
  pub enough : n ≤ rank offer.strength

-- o has a rank of at least n, or is offered one
abbrev pub IsDone : List Reached → List Offer → ℕ → ℕ → Type 0
IsDone ks offers o n = (n ≤ rank_at ks o) ⊎ IsOffered offers o n

-- each object has at most what its support gives it, and its source comes before it; what stands gives no object more than
-- it has or is offered, but for roots and edges that are still to be looked at
pub record IsSpreading (g : Standing) (ks : List Reached) (offers : List Offer) (RootToDo : RootEntry → Type 0) (EdgeToDo : Edge → Type 0) : Type 0 where
  pub supported : (o : ℕ) → IsBacked g ks o (reached_at ks o).strength (reached_at ks o).support
  pub in_order : (o : ℕ) → IsInOrder ks (reached_at ks o) (reached_at ks o).support
  pub backed : (f : Offer) → Contains offers f → IsBacked g ks f.target f.strength f.support
  pub by_roots : (r : RootEntry) → Contains g.roots r → RootToDo r ⊎ IsDone ks offers r.target 5
  pub by_edges : (e : Edge) → Contains g.edges e → EdgeToDo e
      ⊎ (PassesOn g.mode (reached_at ks e.source) → IsDone ks offers e.target (rank (offered_strength ks e)))

-- each object has at most what its support gives it, and the source of that comes before it
pub record AreSupported (g : Standing) (ks : List Reached) : Type 0 where
  pub backed : (o : ℕ) → IsBacked g ks o (reached_at ks o).strength (reached_at ks o).support
  pub in_order : (o : ℕ) → IsInOrder ks (reached_at ks o) (reached_at ks o).support

-- nothing is left to look at
abbrev pub NoRoot : RootEntry → Type 0
NoRoot r = ⊥

abbrev pub NoEdge : Edge → Type 0
NoEdge e = ⊥

-- what is on one of these objects, or leads to one
abbrev pub RootOn : List ℕ → RootEntry → Type 0
RootOn objects r = Contains objects r.target

abbrev pub EdgeTo : List ℕ → Edge → Type 0
EdgeTo objects e = Contains objects e.target

-- an offer by a standing edge from source
pub record IsOfferFrom (g : Standing) (ks : List Reached) (source : ℕ) (x : Offer) : Type 0 where
  pub edge : Edge
  pub stands : Contains g.edges edge
  pub from_source : edge.source ≡ source
  pub to_object : edge.target ≡ x.target
  pub strength : x.strength ≡ offered_strength ks edge
  pub support : x.support ≡ supports.Edge edge.source edge.slot

-- what the standing ones of these edges from source give is offered too
pub record AddsOffers (g : Standing) (ks : List Reached) (source : ℕ) (entries : List MarkedEdge) (old new : List Offer) : Type 0 where
  pub kept : (x : Offer) → Contains old x → Contains new x
  pub made : (x : Offer) → Contains new x → Contains old x ⊎ IsOfferFrom g ks source x
  pub done : (y : MarkedEdge) → Contains entries y → y.stands ≡ true → IsDone ks new y.edge.target (rank (offered_strength ks y.edge))
  pub count : length new ≤ length old + length entries

-- what an edge offers its target
abbrev pub offer_by : List Reached → MarkedEdge → Offer
offer_by ks y = record { target = y.edge.target; strength = offered_strength ks y.edge; support = supports.Edge y.edge.source y.edge.slot }

-- what an edge offers, where it gives its target more than that has
pub record IsOfferOf (ks : List Reached) (y : MarkedEdge) (x : Offer) : Type 0 where
  pub stands : y.stands ≡ true
  pub more : rank_at ks y.edge.target < rank (offered_strength ks y.edge)
  pub is : x ≡ offer_by ks y

-- the objects that an edge joins are below n
pub record IsEdgeWithin (n : ℕ) (y : MarkedEdge) : Type 0 where
  pub source : y.edge.source < n
  pub target : y.edge.target < n

-- how far the ranks can rise
abbrev pub deficit_of : List Reached → ℕ
deficit_of ks = sum_by (λ k. 5 - rank k.strength) ks

-- an offer gives no more than its target has, and nothing changes
pub record IsDeclined (ks ks' : List Reached) (old new : Round) (f : Offer) : Type 0 where
  pub no_more : rank f.strength ≤ rank_at ks f.target
  pub same_kept : ks' ≡ ks
  pub same : new ≡ old

-- the change that an offer makes
abbrev pub change_by : List Reached → Offer → StrengthChange
change_by ks f = record { object = f.target; before = (reached_at ks f.target).strength; after = f.strength }

-- an offer is accepted, and its target is one whose edges are to be looked at
pub record IsAccepted (ks ks' : List Reached) (old new : Round) (f : Offer) : Type 0 where
  pub more : rank_at ks f.target < rank f.strength
  pub stamp : ℕ
  pub here : reached_at ks' f.target ≡ record { strength = f.strength; support = f.support; stamp = stamp }
  pub others : (o : ℕ) → o ≢ f.target → reached_at ks' o ≡ reached_at ks o
  pub count : length ks' ≡ length ks
  pub later : (source : ℕ) (slot : Slot) → f.support ≡ supports.Edge source slot → (reached_at ks source).stamp < stamp
  pub bounded : (m : ℕ) → ((o : ℕ) → (reached_at ks o).stamp ≤ m) → stamp ≤ m + 1
  pub change : new.changes.items ≡ old.changes.items ++ change_by ks f ∷ []
  pub front : new.front.items ≡ old.front.items ++ f.target ∷ []
  pub offers : new.offers ≡ old.offers
  pub deficit : deficit_of ks' < deficit_of ks

-- a change tells both strengths, of which the later is greater
pub record IsRise (ks0 ks : List Reached) (d : StrengthChange) : Type 0 where
  pub before : (reached_at ks0 d.object).strength ≡ d.before
  pub after : (reached_at ks d.object).strength ≡ d.after
  pub rises : rank d.before < rank d.after

-- the changes are told, each once, and everything else is as it was; stamps grow by no more than the number of changes
pub record AreRises (ks0 ks : List Reached) (changes : List StrengthChange) : Type 0 where
  pub each : (d : StrengthChange) → Contains changes d → IsRise ks0 ks d
  pub once : NoneTwice (changed_objects changes)
  pub others : (o : ℕ) → (Contains (changed_objects changes) o → ⊥) → reached_at ks o ≡ reached_at ks0 o
  pub stamps : (m : ℕ) → ((o : ℕ) → (reached_at ks0 o).stamp ≤ m) → (o : ℕ) → (reached_at ks o).stamp ≤ m + length changes

-- what an edge from one of these objects gives is still to be looked at
abbrev pub EdgeFrom : List ℕ → Edge → Type 0
EdgeFrom objects e = Contains objects e.source

-- stamps have room to grow by a number for each object
pub record IsSmall (ks : List Reached) : Type 0 where
  pub few : length ks < 2 ^ 32
  pub room : (o : ℕ) → (reached_at ks o).stamp ≤ 2 ^ 47 + 2 ^ 32

-- a round of offers of a strength: no more is offered. What was given it in this round has it, and all that has changed since the
-- beginning has at least that
pub record IsInRound (r : Rows) (ks0 ks : List Reached) (s : Strength) (round : Round) : Type 0 where
  pub spreading : IsSpreading r.standing ks round.offers NoRoot (EdgeFrom round.front.items)
  pub count : length ks ≡ r.objects
  pub targets : (x : Offer) → Contains round.offers x → x.target < r.objects
  pub at_most : (x : Offer) → Contains round.offers x → rank x.strength ≤ rank s
  pub floor : (o : ℕ) → Contains (changed_objects round.changes.items) o → rank s ≤ rank_at ks o
  pub front : (o : ℕ) → Contains round.front.items o → (o < r.objects) × (rank_at ks o ≡ rank s)
  pub changed : AreRises ks0 ks round.changes.items
  pub deficit : length round.changes.items + deficit_of ks ≤ deficit_of ks0

-- a round that begins or goes on from some beginning
pub record IsStarted (r : Rows) (ks : List Reached) (s : Strength) (round : Round) : Type 0 where
  pub beginning : List Reached
  pub small : IsSmall beginning
  pub in_round : IsInRound r beginning ks s round

-- a round goes on: what is accepted has changed, and its edges are to be looked at
pub record GoesOn (ks ks' : List Reached) (old new : Round) : Type 0 where
  pub more : List ℕ
  pub changes : changed_objects new.changes.items ≡ changed_objects old.changes.items ++ more
  pub front : new.front.items ≡ old.front.items ++ more
  pub deficit : deficit_of ks' + length more ≤ deficit_of ks

-- what the standing ones of the edges from these objects give is offered too
pub record OffersFrom (r : Rows) (ks : List Reached) (objects : List ℕ) (old new : List Offer) : Type 0 where
  pub kept : (x : Offer) → Contains old x → Contains new x
  pub made : (x : Offer) → Contains new x → Contains old x ⊎ ((o : ℕ) × Contains objects o × IsOfferFrom r.standing ks o x)
  pub done : (o : ℕ) (y : MarkedEdge) → Contains objects o → Contains (r.out o) y → y.stands ≡ true
      → IsDone ks new y.edge.target (rank (offered_strength ks y.edge))
  pub count : length new ≤ length old + sum_by (λ o. length (r.out o)) objects
  pub few : sum_by (λ o. length (r.out o)) objects ≤ length objects * (2 ^ 32 - 1)

-- between two rounds: nothing is left to look at, and no offer is above what has changed since the beginning
pub record IsRepairing (r : Rows) (ks0 ks : List Reached) (offers : List Offer) (changes : List StrengthChange) : Type 0 where
  pub spreading : IsSpreading r.standing ks offers NoRoot NoEdge
  pub count : length ks ≡ r.objects
  pub targets : (x : Offer) → Contains offers x → x.target < r.objects
  pub below : (x : Offer) → Contains offers x → (o : ℕ) → Contains (changed_objects changes) o → rank x.strength ≤ rank_at ks o
  pub changed : AreRises ks0 ks changes
  pub deficit : length changes + deficit_of ks ≤ deficit_of ks0

-- no standing one of these roots and edges gives o more than this offer, which is backed and gives no less than o has; where it
-- gives no more, its source comes before o
pub record IsBestSoFar (g : Standing) (ks : List Reached) (o : ℕ) (marks : List MarkedRoot) (entries : List MarkedEdge) (x : Offer) : Type 0 where
  pub target : x.target ≡ o
  pub backed : IsBacked g ks o x.strength x.support
  pub no_less : rank_at ks o ≤ rank x.strength
  pub in_order : rank x.strength ≤ rank_at ks o → IsInOrder ks (reached_at ks o) x.support
  pub by_marks : (m : MarkedRoot) → Contains marks m → m.stands ≡ true → 5 ≤ rank x.strength
  pub by_entries : (y : MarkedEdge) → Contains entries y → y.stands ≡ true → PassesOn g.mode (reached_at ks y.edge.source)
      → rank (offered_strength ks y.edge) ≤ rank x.strength

-- an object comes before the source of a support
pub record ComesBefore (ks : List Reached) (o : ℕ) (by : Support) : Type 0 where
  pub source : ℕ
  pub slot : Slot
  pub is : by ≡ supports.Edge source slot
  pub before : IsBefore (reached_at ks o) (reached_at ks source)

-- an edge gives an object what the better one of two offers gives: more than the other, or the same from an earlier source
pub record IsBetterBy (mode : Mode) (ks : List Reached) (y : MarkedEdge) (x x' : Offer) : Type 0 where
  pub stands : y.stands ≡ true
  pub passes_on : PassesOn mode (reached_at ks y.edge.source)
  pub is : x' ≡ offer_by ks y
  pub better : (rank x.strength < rank x'.strength) ⊎ ComesBefore ks y.edge.source x.support

-- some objects have other supports, and the same strengths and stamps
pub record AreResupported (ks ks' : List Reached) (objects : List ℕ) : Type 0 where
  pub count : length ks' ≡ length ks
  pub strengths : (o : ℕ) → (reached_at ks' o).strength ≡ (reached_at ks o).strength
  pub stamps : (o : ℕ) → (reached_at ks' o).stamp ≡ (reached_at ks o).stamp
  pub others : (o : ℕ) → (Contains objects o → ⊥) → reached_at ks' o ≡ reached_at ks o

-- an offer that gives no more than its target has becomes the support of that, and nothing is offered; or it is added
pub data IsTaken (ks ks' : List Reached) (offers offers' : List Offer) (x : Offer) : Type 0 where
  offered : rank_at ks x.target < rank x.strength → ks' ≡ ks → AddsOffer offers offers' x → IsTaken ks ks' offers offers' x
  held : rank x.strength ≤ rank_at ks x.target → (length ks' ≡ length ks) → offers' ≡ offers
      → reached_at ks' x.target ≡ record { strength = (reached_at ks x.target).strength; support = x.support; stamp = (reached_at ks x.target).stamp }
      → ((o : ℕ) → o ≢ x.target → reached_at ks' o ≡ reached_at ks o) → IsTaken ks ks' offers offers' x

-- the best offer to an object, by all roots on it and all edges to it
abbrev pub IsBest : Rows → List Reached → ℕ → Offer → Type 0
IsBest r ks o x = IsBestSoFar r.standing ks o (r.roots o) (r.into o) x

-- the best offers to these objects are made too
pub record OffersBest (r : Rows) (ks : List Reached) (objects : List ℕ) (old new : List Offer) : Type 0 where
  pub kept : (x : Offer) → Contains old x → Contains new x
  pub made : (x : Offer) → Contains new x → Contains old x ⊎ ((o : ℕ) × Contains objects o × IsBest r ks o x)
  pub done : (o : ℕ) → Contains objects o → (x : Offer) × IsBest r ks o x × (1 ≤ rank x.strength → Contains new x)
