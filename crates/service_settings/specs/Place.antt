-- Where a fault of services is.
use Rattle.pool_settings.specs.Place as settings
use Rattle.service_settings.specs.declared.place.ServicesPlace.{ServicesPlace}
use Rattle.service_settings.specs.declared.place.ServicesPlace.TheVariants as place

-- a place, apart from how its texts are held
abbrev pub place_view : {T U : Type 0} → (T → U) → ServicesPlace T → ServicesPlace U
place_view text (place.At at) = place.At (settings.place_view text at)
place_view text (place.PageKey key) = place.PageKey (text key)
