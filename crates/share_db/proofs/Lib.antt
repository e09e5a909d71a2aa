mod SameShares
