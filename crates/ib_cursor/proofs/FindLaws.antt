-- A key looked up on its leaf, where it lies.
use Rattle.std.proofs.Common.{◌≡◌, ℕ, ◌<◌, ◌≤◌, false, List, [], Option, sym, ap, subst, ◌∙◌}
use Rattle.ib_map.specs.Keys.{MapKey, rank, end_rank}
use Rattle.ib_map.specs.Pairs.{value_at}
use Rattle.ib_page.specs.Image.{records_of}
use Rattle.ib_layout.specs.Geometry.{Sizes}
use Rattle.ib_logrec.specs.declared.entry.Entry.{Entry}
use Rattle.ib_logrec.specs.Log.{memory_after}
use Rattle.ib_rule.specs.declared.memory.Loaded.{Loaded}
use Rattle.ib_rule.specs.Pass.{PassState, with_view}
use Rattle.ib_walk.specs.Words.{image_of}
use Rattle.ib_cursor.specs.Reading.{HasReadWords, with_loads}
use Rattle.ib_cursor.specs.Descent.{HasReached, HasFound}
use Rattle.ib_cursor.specs.Laws.{Laws}
use Rattle.ib_cursor.proofs.DownLaws.{leaf_image}

-- words of the leaf are loaded, and what they say of the key is what the tree has
module _ (sizes : Sizes) (roots : ℕ) (lawful : List Entry → Type 0) (opening : ℕ → ℕ) (laws : Laws sizes.pages roots lawful opening) (root : ℕ) (some : 0 < root) (le : root ≤ roots) (key : MapKey) (lt : rank key < end_rank)
    (path : List ℕ) (p q : PassState) (reached : HasReached sizes lawful opening root key false path p q) (none : q.work ≡ [])
    (value : Option ℕ) (is : value ≡ value_at key (records_of (image_of (memory_after opening q.view.memory.seen) reached.leaf))) where
  found-loads : (loaded : List Loaded) → HasFound sizes lawful opening root key value p (with_view q (with_loads loaded q.view))
  found-loads loaded = record {
    path = path;
    reached = record {
      leaf = reached.leaf;
      front = reached.front;
      ends = reached.ends;
      is_leaf = reached.is_leaf;
      grants = record { memo = reached.grants.memo; session = reached.grants.session };
      watched = reached.watched;
      went = record {
        table = reached.went.table;
        sizes = reached.went.sizes;
        number = reached.went.number;
        own = reached.went.own;
        more = reached.went.more;
        seen = reached.went.seen;
        added = reached.went.added;
        ends = reached.went.ends;
        bounds = reached.went.bounds;
      };
      looked = reached.looked;
      known = record { legal = reached.known.legal; room = reached.known.room; mine = reached.known.mine };
      sx = reached.sx;
      finds = reached.finds;
      changes = reached.changes;
      s = reached.s;
      low = reached.low;
      x = reached.x;
    };
    work = none;
    is_value = is ∙ ap (value_at key) (sym (leaf_image sizes roots lawful opening laws root some le key lt false path p q reached).image.records);
  }

  pub found : (r : PassState) → HasReadWords q r → HasFound sizes lawful opening root key value p r
  found r read = subst (HasFound sizes lawful opening root key value p) (sym read.same) (found-loads r.view.memory.loaded)
