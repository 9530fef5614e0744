use Rattle.std.proofs.Common.{length, sym, ap, ◌∙◌, subst, arith}
use Rattle.std.proofs.lemmas.Option.{slice_get-get_or}
use Rattle.lgx_num.specs.declared.number.Kind.TheVariants.{Bool as KBool}
use Rattle.lgx_num.specs.declared.place.Place.{Place}
use Rattle.lgx_watch.specs.Index.{AreLone}
use Rattle.lgx_watch.proofs.Rows.{noted-whole}
use Rattle.lgx_watch.proofs.watch_index.lones_of.Goals as goal

abbrev blank : Place
blank = record { kind = KBool; at = 0 }

pub note_lones-requires : goal.note_lones-requires
note_lones-requires c = record {
  room = c.requires c.loop-place.place-index _ (slice_get-get_or c.args.places.now c.loop-place.place-index blank (omega arith));
  same = ap length c.deref_mut.ensures.value ∙ c.loop-place.invariant.len;
  lone = rw c.deref_mut.ensures.value c.loop-place.invariant.lone;
}

pub loop-place-preserved : goal.loop-place-preserved
loop-place-preserved c =
    let written = noted-whole c.loop-place.lones.len c.loop-place.lones.items c.note_lones.new.lones (omega (arith, c.note_lones.ensures.len)) in
    record {
      lone = subst (AreLone c.args.rows.now) (sym written) c.note_lones.ensures.lone;
      len = ap length written ∙ c.note_lones.ensures.len ∙ ap length c.deref_mut.ensures.value ∙ c.loop-place.invariant.len;
    }
