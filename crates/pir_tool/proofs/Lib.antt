mod SomeVerdict
mod SameFrames
mod SameLookUps
mod SameSearches
